use Rattle.std.proofs.Common.{◌≡◌, ◌++◌, drop}
use Rattle.ev_rules.specs.inner.Marks.{numbers}
use Rattle.ev_rules.proofs.occurring.marked_numbers.Given as goal

abbrev pub invariant-loop-i : goal.invariant-loop-i
invariant-loop-i l = l.ids ++ numbers l.i (drop l.i l.marks) ≡ numbers 0 l.marks
