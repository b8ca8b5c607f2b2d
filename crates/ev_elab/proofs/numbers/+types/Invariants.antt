use Rattle.std.specs.List.{list_any}
use Rattle.std.proofs.Common.{◌≡◌, ◌*◌, ◌+◌, drop}
use Rattle.ev_syntax.specs.inner.TypeView.{raw_types, height, types_height}
use Rattle.ev_resolve.specs.UsedNames.{types_params}
use Rattle.ev_elab.specs.Unknown.{is_no_number}
use Rattle.ev_elab.proofs.numbers.+types.Given as goal

abbrev pub decreases-type_passes : goal.decreases-type_passes
decreases-type_passes l = 2 * height l.ty.now

abbrev pub decreases-types_pass : goal.decreases-types_pass
decreases-types_pass l = 2 * types_height (raw_types l.types.now) + 1

abbrev pub invariant-types_pass-loop-ty : goal.invariant-types_pass-loop-ty
invariant-types_pass-loop-ty l = list_any (is_no_number l.count) (types_params (raw_types (drop l.ty-index l.types))) ≡ list_any (is_no_number l.count) (types_params (raw_types l.types))
