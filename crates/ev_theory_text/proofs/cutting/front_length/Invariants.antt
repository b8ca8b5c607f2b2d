use Rattle.std.proofs.Common.{◌≡◌, ◌+◌, ◌-◌, ◌≤◌, length, drop}
use Rattle.ev_theory_text.specs.Cut.{cut}
use Rattle.ev_theory_text.proofs.cutting.front_length.Given as goal

-- the front goes on from here
abbrev pub invariant-lines : goal.invariant-lines
invariant-lines l = (l.at ≤ length l.text) × (length (cut l.text).front ≡ l.at + length (cut (drop l.at l.text)).front)

abbrev pub decreases-lines : goal.decreases-lines
decreases-lines l = length l.text - l.at
