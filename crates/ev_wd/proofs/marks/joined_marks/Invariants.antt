use Rattle.std.proofs.Common.{◌≡◌, ◌++◌, drop}
use Rattle.ev_wd.specs.inner.Marks.{either}
use Rattle.ev_wd.proofs.marks.joined_marks.Given as goal

abbrev pub invariant-loop-i : goal.invariant-loop-i
invariant-loop-i l = l.all.items ++ either (drop l.i l.left) (drop l.i l.right) ≡ either l.left l.right
