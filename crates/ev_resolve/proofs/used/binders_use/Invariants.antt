use Rattle.std.specs.List.{list_any}
use Rattle.std.proofs.Common.{◌≡◌, drop}
use Rattle.ev_resolve.specs.UsedNames.{binders_types_names}
use Rattle.ev_resolve.specs.inner.Inners.{binders_told}
use Rattle.ev_resolve.specs.inner.Unknown.{is_unknown}
use Rattle.ev_resolve.proofs.used.binders_use.Given as goal

abbrev pub invariant-loop-binder : goal.invariant-loop-binder
invariant-loop-binder l =
    list_any (is_unknown l.names.1 l.names.0) (binders_types_names (binders_told (drop l.binder-index l.binders))) ≡ list_any (is_unknown l.names.1 l.names.0) (binders_types_names (binders_told l.binders))
