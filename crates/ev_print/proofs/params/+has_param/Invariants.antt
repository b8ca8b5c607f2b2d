use Rattle.ev_terms.specs.Measures.{type_size, types_size}
use Rattle.ev_typing.specs.Occurs.{have_param}
use Rattle.std.proofs.Common.{◌≡◌, ◌+◌, ◌*◌, ◌≤◌}
use Rattle.ev_print.proofs.params.+has_param.Given as goal

abbrev pub decreases-has_param : goal.decreases-has_param
decreases-has_param l = 2 * type_size l.ty.now

abbrev pub decreases-have_param : goal.decreases-have_param
decreases-have_param l = 2 * types_size l.types.now + 1

abbrev pub invariant-have_param-loop-left : goal.invariant-have_param-loop-left
invariant-have_param-loop-left l = (have_param l.i l.left ≡ have_param l.i l.types) × (types_size l.left ≤ types_size l.types)
