use Rattle.std.proofs.Common.{◌+◌, ◌*◌, ◌≤◌}
use Rattle.ev_unify.proofs.Spread.{pat_size, pats_size}
use Rattle.ev_infer.proofs.SolvingSteps.{IsRest}
use Rattle.ev_infer.proofs.solving.+look.Given as goal

abbrev pub decreases-look_at : goal.decreases-look_at
decreases-look_at l = 2 * pat_size l.pat.now

abbrev pub decreases-look_at_all : goal.decreases-look_at_all
decreases-look_at_all l = 2 * pats_size l.list.now + 1

abbrev pub invariant-look_at_all-loop-left : goal.invariant-look_at_all-loop-left
invariant-look_at_all-loop-left l = IsRest l.left l.list l.marks × (pats_size l.left ≤ pats_size l.list)
