use Rattle.std.proofs.Common.{◌+◌, ◌*◌, ℕ, [], length}
use Rattle.std.specs.Prelude.{Option}
use Rattle.ev_syntax.specs.inner.Finding.{Found}
use Rattle.ev_syntax.specs.inner.Machines.{Holds, step_weight}
use Rattle.ev_syntax.proofs.machines.run.Given as goal

abbrev pub invariant-loop-next : goal.invariant-loop-next
invariant-loop-next g l = (whole : ℕ → Option (Found _)) → (g.M.Machine.meaning l.machine).state whole [] l.fn.start → Holds (g.M.Machine.meaning l.machine) whole l.stack.items l.next

abbrev pub decreases-loop-next : goal.decreases-loop-next
decreases-loop-next g l = step_weight (g.M.Machine.meaning l.machine) l.next + 5 * length l.stack.items
