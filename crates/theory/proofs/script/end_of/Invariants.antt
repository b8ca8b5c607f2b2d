use Rattle.theory.proofs.ScriptLaws.{BodySoFar}
use Rattle.theory.proofs.script.end_of.Given as goal

abbrev pub invariant-loop-i : goal.invariant-loop-i
invariant-loop-i l = BodySoFar l.lines l.i
