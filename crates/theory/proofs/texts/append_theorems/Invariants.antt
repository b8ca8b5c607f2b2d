use Rattle.std.proofs.Common.{◌≡◌, ◌++◌, drop}
use Rattle.theory.specs.Reports.{theorem_lines}
use Rattle.theory.proofs.texts.append_theorems.Given as goal

abbrev pub invariant-loop-at : goal.invariant-loop-at
invariant-loop-at l = l.text.items ++ theorem_lines l.theory (drop l.at l.theorems) (drop l.at l.statuses) ≡ l.initial.text.items ++ theorem_lines l.theory l.theorems l.statuses
