use Rattle.std.proofs.Common.{◌≡◌, ◌++◌, ◌-◌, ◌≤◌, [], length, drop}
use Rattle.std.specs.List.{All}
use Rattle.ev_theory_text.specs.Cut.{cut, texts}
use Rattle.ev_theory_text.proofs.cutting.cut.Given as goal

-- an element begins here, or the text ends, and the parts that are left follow those found
abbrev pub invariant-parts : goal.invariant-parts
invariant-parts l = (l.at ≤ length l.text) × ((cut (drop l.at l.text)).front ≡ []) × (texts l.parts.items ++ (cut (drop l.at l.text)).parts ≡ (cut l.text).parts) × All (λ part. length part.now ≤ length l.text) l.parts.items

abbrev pub decreases-parts : goal.decreases-parts
decreases-parts l = length l.text - l.at
