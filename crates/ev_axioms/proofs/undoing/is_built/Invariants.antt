use Rattle.std.proofs.Common.{◌≡◌, ◌≤◌}
use Rattle.std.specs.Prelude.{◌↔◌, [], Some, length}
use Rattle.ev_axioms.specs.inner.Building.{built}
use Rattle.ev_axioms.proofs.Undone.{Leaves}
use Rattle.ev_axioms.proofs.undoing.is_built.Given as goal

abbrev pub invariant-loop-left : goal.invariant-loop-left
invariant-loop-left l = record {
  within : l.left ≤ length l.steps;
  so_far : Leaves l.steps l.left l.stack.items ↔ (built l.steps [] ≡ Some l.tree);
}

abbrev pub decreases-loop-left : goal.decreases-loop-left
decreases-loop-left l = l.left
