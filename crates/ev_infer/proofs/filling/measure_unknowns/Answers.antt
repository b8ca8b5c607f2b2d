use Rattle.std.specs.Prelude.{◌≡◌, ◌+◌, ◌-◌}
use Rattle.std.proofs.Common.{arith}
use Rattle.ev_infer.specs.inner.Bulks.{bulk_at}
use Rattle.ev_infer.proofs.FillingSteps.{measured_more}
use Rattle.ev_infer.proofs.filling.measure_unknowns.Goals as goal

pub loop-unknown-preserved : goal.loop-unknown-preserved
loop-unknown-preserved c =
    let h : c.loop-unknown.unknown ≡ c.loop-unknown.unknown - 1 + 1 = omega arith in
    (omega arith, omega arith, measured_more (bulk_at c.args.bulks.now) c.loop-unknown.unknown (c.loop-unknown.unknown - 1) c.in-Some.end c.loop-unknown.bulk c.unknown_bulk.result c.beside-bulk.result c.loop-unknown.invariant.1 h c.unknown_bulk.ensures c.beside-bulk.ensures c.loop-unknown.invariant.2)
