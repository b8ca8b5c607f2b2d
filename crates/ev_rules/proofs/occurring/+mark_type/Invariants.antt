use Rattle.std.proofs.Common.{◌≡◌, ◌≤◌, ◌+◌}
use Rattle.std.specs.Prelude.{◌*◌}
use Rattle.ev_terms.specs.Measures.{type_size, types_size}
use Rattle.ev_typing.specs.Occurs.{have_param}
use Rattle.ev_rules.specs.inner.Marks.{marked}
use Rattle.ev_rules.proofs.occurring.+mark_type.Given as goal

abbrev pub decreases-mark_type : goal.decreases-mark_type
decreases-mark_type l = 2 * type_size l.ty.now

abbrev pub decreases-mark_types : goal.decreases-mark_types
decreases-mark_types l = 2 * types_size l.types.now + 1

abbrev pub invariant-mark_types-loop-left : goal.invariant-mark_types-loop-left
invariant-mark_types-loop-left l = record {
  smaller : types_size l.left ≤ types_size l.types;
  goes_on : marked 0 (λ j. have_param j l.left) l.marks ≡ marked 0 (λ j. have_param j l.types) l.fn.marks;
}
