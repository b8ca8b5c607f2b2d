use Rattle.std.proofs.Common.{◌-◌, ◌≤◌, length}
use Rattle.ev_script.proofs.BodyLaws.{BodySoFar}
use Rattle.ev_script.proofs.bodies.find_closing.Given as goal

-- no line so far closes the body
abbrev pub invariant-lines : goal.invariant-lines
invariant-lines l = (l.at ≤ length l.text) × BodySoFar l.text l.at

abbrev pub decreases-lines : goal.decreases-lines
decreases-lines l = length l.text - l.at
