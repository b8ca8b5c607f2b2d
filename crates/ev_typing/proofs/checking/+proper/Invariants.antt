use Rattle.std.proofs.Common.{◌≡◌, ◌≤◌, ◌+◌, ◌*◌}
use Rattle.ev_terms.specs.Measures.{type_size, types_size}
use Rattle.ev_typing.specs.Proper.{are_proper}
use Rattle.ev_typing.proofs.checking.+proper.Given as goal

abbrev pub decreases-test_type : goal.decreases-test_type
decreases-test_type l = 2 * type_size l.ty.now

abbrev pub decreases-test_types : goal.decreases-test_types
decreases-test_types l = 2 * types_size l.types.now + 1

abbrev pub invariant-test_types-loop-left : goal.invariant-test_types-loop-left
invariant-test_types-loop-left l = record {
  smaller : types_size l.left ≤ types_size l.types;
  rest : are_proper l.env l.left ≡ are_proper l.env l.types;
}
