use Rattle.ev_infer.specs.inner.Bulks.{bulk_at}
use Rattle.std.proofs.Common.{ap, ◌∙◌}
use Rattle.ev_infer.specs.inner.Bulks.{beside, bulk}
use Rattle.ev_infer.proofs.FillingSteps.{written_bulk}
use Rattle.ev_infer.proofs.filling.measure_written.Goals as goal

pub returns : goal.returns
returns c = written_bulk (bulk_at c.args._bulks.now) c.args.ty.now c.args.next c.beside.result (c.beside.ensures ∙ ap (λ x. beside x (bulk 0 0)) c.type_bulk.ensures)
