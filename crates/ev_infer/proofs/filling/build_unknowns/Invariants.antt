use Rattle.std.proofs.Common.{◌≤◌}
use Rattle.ev_infer.specs.inner.Bulks.{type_at_unknown}
use Rattle.ev_infer.proofs.FillingSteps.{AreListed}
use Rattle.ev_infer.proofs.filling.build_unknowns.Given as goal

abbrev pub invariant-loop-unknown : goal.invariant-loop-unknown
invariant-loop-unknown l = (l.next ≤ l.unknown) × (l.unknown ≤ l.end) × AreListed (type_at_unknown l.types) l.unknown l.end l.list

abbrev pub decreases-loop-unknown : goal.decreases-loop-unknown
decreases-loop-unknown l = l.unknown
