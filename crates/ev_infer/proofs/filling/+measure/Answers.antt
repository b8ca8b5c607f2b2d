use Rattle.ev_infer.specs.inner.Bulks.{bulk_at}
use Rattle.ev_infer.proofs.FillingSteps.{capped_zero, rest_start}
use Rattle.ev_infer.proofs.filling.+measure.Goals as goal

pub measure_all-loop-child-init : goal.measure_all-loop-child-init
measure_all-loop-child-init t c = record { capped = capped_zero; rest = rest_start c.args.env.now (bulk_at c.args.bulks.now) c.args.children.now c.args.next }
