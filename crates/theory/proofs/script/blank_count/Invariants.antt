use Rattle.theory.specs.inner.Scripts.{BlankSoFar}
use Rattle.theory.proofs.script.blank_count.Given as goal

abbrev pub invariant-loop-i : goal.invariant-loop-i
invariant-loop-i l = BlankSoFar l.lines l.i
