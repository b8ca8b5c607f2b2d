use Rattle.std.proofs.Common.{drop}
use Rattle.theory.specs.inner.Pieces.{texts}
use Rattle.theory.specs.Steps.{IsStep}
use Rattle.theory.proofs.ReadingLaws.{ReadSoFar}
use Rattle.theory.proofs.steps.steps_of.Given as goal

abbrev pub invariant-loop-line : goal.invariant-loop-line
invariant-loop-line l = ReadSoFar IsStep (texts l.line-items) l.steps (texts (drop l.line-index l.line-items))
