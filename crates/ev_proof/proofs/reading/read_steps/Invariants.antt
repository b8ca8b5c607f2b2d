use Rattle.ev_proof.proofs.BodyLaws.{SoFar}
use Rattle.ev_proof.proofs.reading.read_steps.Given as goal

abbrev pub invariant-loop-line : goal.invariant-loop-line
invariant-loop-line l = SoFar l.fn.body l.steps l.line-iterator
