use Rattle.std.proofs.Common.{◌≡◌, ◌≤◌, ◌+◌, ◌*◌}
use Rattle.ev_terms.specs.Measures.{type_size, types_size}
use Rattle.ev_typing.specs.Occurs.{have_data}
use Rattle.ev_data.proofs.admission.+has_data.Given as goal

abbrev pub decreases-has_data : goal.decreases-has_data
decreases-has_data l = 2 * type_size l.ty.now

abbrev pub decreases-have_data : goal.decreases-have_data
decreases-have_data l = 2 * types_size l.types.now + 1

abbrev pub invariant-have_data-loop-left : goal.invariant-have_data-loop-left
invariant-have_data-loop-left l = record {
  smaller : types_size l.left ≤ types_size l.types;
  rest : have_data l.name l.left ≡ have_data l.name l.types;
}
