use Rattle.std.proofs.Common.{◌≤◌}
use Rattle.ev_infer.specs.inner.Bulks.{bulk_at}
use Rattle.ev_infer.proofs.FillingSteps.{AreMeasured}
use Rattle.ev_infer.proofs.filling.measure_unknowns.Given as goal

abbrev pub invariant-loop-unknown : goal.invariant-loop-unknown
invariant-loop-unknown l = (l.next ≤ l.unknown) × (l.unknown ≤ l.end) × AreMeasured (bulk_at l.bulks) l.unknown l.end l.bulk

abbrev pub decreases-loop-unknown : goal.decreases-loop-unknown
decreases-loop-unknown l = l.unknown
