use Rattle.std.specs.List.{list_any}
use Rattle.std.proofs.Common.{◌≡◌, ◌*◌, ◌+◌, drop}
use Rattle.ev_syntax.specs.inner.TypeView.{raw_types, height, types_height}
use Rattle.ev_resolve.specs.UsedNames.{types_names}
use Rattle.ev_resolve.specs.inner.Unknown.{is_unknown}
use Rattle.ev_resolve.proofs.used.+types.Given as goal

abbrev pub decreases-has_unknown_type : goal.decreases-has_unknown_type
decreases-has_unknown_type l = 2 * height l.ty.now

abbrev pub decreases-types_use : goal.decreases-types_use
decreases-types_use l = 2 * types_height (raw_types l.types.now) + 1

abbrev pub invariant-types_use-loop-ty : goal.invariant-types_use-loop-ty
invariant-types_use-loop-ty l =
    list_any (is_unknown l.names.1 l.names.0) (types_names (raw_types (drop l.ty-index l.types))) ≡ list_any (is_unknown l.names.1 l.names.0) (types_names (raw_types l.types))
