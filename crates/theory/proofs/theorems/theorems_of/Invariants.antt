use Rattle.std.proofs.Common.{◌≡◌, [], drop}
use Rattle.theory.specs.inner.Pieces.{texts}
use Rattle.theory.specs.Theorems.{IsTheorem, AreDifferent, labels_of}
use Rattle.theory.proofs.ReadingLaws.{ReadSoFar}
use Rattle.theory.proofs.theorems.theorems_of.Given as goal

abbrev pub invariant-loop-line : goal.invariant-loop-line
invariant-loop-line l = record {
  read : ReadSoFar IsTheorem (texts l.line-items) l.theorems (texts (drop l.line-index l.line-items));
  labels : l.labels.keys ≡ labels_of l.theorems;
  different : AreDifferent [] (labels_of l.theorems);
}
