use Rattle.ev_infer.specs.inner.Bulks.{bulk_at}
use Rattle.std.proofs.Common.{arith}
use Rattle.ev_infer.proofs.SolvingSteps.{second_rank, item_rank, rest_size}
use Rattle.ev_infer.specs.inner.Bulks.{pats_bulk}
use Rattle.ev_infer.proofs.BulkSteps.{prod_pat_by, small_beside, pats_start, pats_step}
use Rattle.ev_infer.proofs.bulks.+pat_bulk.Goals as goal

pub pat_bulk-returns-in-Prod : goal.pat_bulk-returns-in-Prod
pat_bulk-returns-in-Prod t c =
    prod_pat_by (bulk_at c.args.bulks.now) c.args.pat.now c.in-Prod.a c.in-Prod.b c.get-in-Prod.result.now c.get-in-Prod-2.result.now c.above-in-Prod.result c.beside.result c.pat_bulk-in-Prod.result c.pat_bulk-in-Prod-2.result
    c.in-Prod.is c.get-in-Prod.ensures c.get-in-Prod-2.ensures c.pat_bulk-in-Prod.ensures c.pat_bulk-in-Prod-2.ensures c.beside.ensures c.above-in-Prod.ensures

pub pat_bulk-pat_bulk-requires-in-Prod-2 : goal.pat_bulk-pat_bulk-requires-in-Prod-2
pat_bulk-pat_bulk-requires-in-Prod-2 t c = (let r = second_rank c.args.pat.now c.in-Prod.a c.in-Prod.b c.get-in-Prod-2.result.now c.in-Prod.is c.get-in-Prod-2.ensures in let d = c.decreases in omega (arith, r, d), tt)

pub pats_bulk-loop-left-init : goal.pats_bulk-loop-left-init
pats_bulk-loop-left-init t c = (pats_start (bulk_at c.args.bulks.now) c.args.list.now, omega arith, omega arith)

pub pats_bulk-pat_bulk-requires : goal.pats_bulk-pat_bulk-requires
pats_bulk-pat_bulk-requires t c = (let r = item_rank c.args.list.now c.loop-left.left.now c.in-More.rest c.in-More.a c.get.result.now c.in-More.is c.get.ensures c.loop-left.invariant.2 in let d = c.decreases in omega (arith, r, d), tt)

pub pats_bulk-loop-left-preserved : goal.pats_bulk-loop-left-preserved
pats_bulk-loop-left-preserved t c = (
  pats_step (bulk_at c.args.bulks.now) (pats_bulk (bulk_at c.args.bulks.now) c.args.list.now) c.loop-left.all c.beside-all.result c.pat_bulk.result c.loop-left.left.now c.in-More.rest c.get-left.result.now c.in-More.a c.get.result.now
      c.in-More.is c.get.ensures c.get-left.ensures c.pat_bulk.ensures c.beside-all.ensures c.loop-left.invariant.0,
  small_beside c.beside-all.result c.loop-left.all c.pat_bulk.result c.beside-all.ensures,
  rest_size c.args.list.now c.loop-left.left.now c.in-More.rest c.get-left.result.now c.in-More.a c.in-More.is c.get-left.ensures c.loop-left.invariant.2,
)
