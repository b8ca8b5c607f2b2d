use Rattle.std.proofs.Common.{length}
use Rattle.theory.specs.inner.Pieces.{texts}
use Rattle.theory.proofs.ScriptLaws.{ProofsSoFar}
use Rattle.theory.proofs.script.proofs_of.Given as goal

abbrev pub invariant-units : goal.invariant-units
invariant-units l = ProofsSoFar (texts l.lines) l.proofs (texts l.rest)

abbrev pub decreases-units : goal.decreases-units
decreases-units l = length l.rest
