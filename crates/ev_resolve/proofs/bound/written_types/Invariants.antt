use Rattle.std.proofs.Common.{◌≡◌, drop}
use Rattle.ev_resolve.specs.Resolve.{known_of}
use Rattle.ev_resolve.specs.inner.Inners.{binders_told, written_types}
use Rattle.ev_resolve.proofs.BindSteps.{types_with}
use Rattle.ev_resolve.proofs.bound.written_types.Given as goal

abbrev pub invariant-loop-binder : goal.invariant-loop-binder
invariant-loop-binder l =
    types_with l.names.0 (known_of l.names.1) l.types.items (binders_told (drop l.binder-index l.binders)) ≡ written_types l.names.0 (known_of l.names.1) (binders_told l.binders)
