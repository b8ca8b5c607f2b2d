use Rattle.std.proofs.Common.{◌≤◌}
use Rattle.ev_infer.proofs.PatternSteps.{AreCounted}
use Rattle.ev_infer.proofs.patterns.new_unknowns.Given as goal

abbrev pub invariant-loop-unknown : goal.invariant-loop-unknown
invariant-loop-unknown l = (l.unknown ≤ l.end) × AreCounted l.types.items l.next l.unknown l.count

abbrev pub decreases-loop-unknown : goal.decreases-loop-unknown
decreases-loop-unknown l = Rattle.std.proofs.Common.◌-◌ l.end l.unknown
