use Rattle.std.proofs.Common.{◌≡◌, ◌≤◌, length}
use Rattle.ev_infer.proofs.UnknownSteps.{AreFirst}
use Rattle.ev_infer.proofs.unknowns.first_marks.Given as goal

abbrev pub invariant-loop-i : goal.invariant-loop-i
invariant-loop-i l = (l.i ≤ length l.binds) × (length l.marks.items ≡ l.count) × AreFirst l.binds l.i l.count l.marks.items

abbrev pub decreases-loop-i : goal.decreases-loop-i
decreases-loop-i l = l.i
