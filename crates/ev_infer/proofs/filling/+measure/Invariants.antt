use Rattle.std.proofs.Common.{◌*◌, ◌+◌, drop}
use Rattle.ev_resolve.specs.inner.BareView.{bares, height, heights}
use Rattle.ev_infer.specs.inner.Bulks.{bulk_at}
use Rattle.ev_infer.specs.inner.Filling.{all_measured}
use Rattle.ev_infer.proofs.FillingSteps.{RestMeasured, IsCapped}
use Rattle.ev_infer.proofs.filling.+measure.Given as goal

abbrev pub decreases-measure : goal.decreases-measure
decreases-measure l = 2 * height l.bare.now

abbrev pub decreases-measure_all : goal.decreases-measure_all
decreases-measure_all l = 2 * heights (bares l.children.now) + 1

abbrev pub invariant-measure_all-loop-child : goal.invariant-measure_all-loop-child
invariant-measure_all-loop-child l = record {
  capped : IsCapped l.bulk;
  rest : RestMeasured l.env (bulk_at l.bulks) (drop l.child-index l.children) l.unused l.bulk (all_measured l.env (bares l.children) l.next (bulk_at l.bulks));
}
