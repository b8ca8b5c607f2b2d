use Rattle.std.proofs.Common.{◌≡◌, ◌++◌, drop}
use Rattle.theory.specs.Words.{full_lines}
use Rattle.theory.specs.inner.Pieces.{texts}
use Rattle.theory.proofs.words.full_lines.Given as goal

abbrev pub invariant-loop-line : goal.invariant-loop-line
invariant-loop-line l = texts l.full.items ++ full_lines (texts (drop l.line-index l.lines)) ≡ full_lines (texts l.lines)
