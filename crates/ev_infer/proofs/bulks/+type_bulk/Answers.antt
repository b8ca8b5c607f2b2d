use Rattle.std.proofs.Common.{arith}
use Rattle.ev_infer.specs.inner.Bulks.{types_bulk}
use Rattle.ev_infer.proofs.BulkSteps.{prod_by, small_beside, types_step, right_rank, item_rank, rest_size}
use Rattle.ev_infer.proofs.bulks.+type_bulk.Goals as goal

pub type_bulk-returns-in-Prod : goal.type_bulk-returns-in-Prod
type_bulk-returns-in-Prod t c =
    prod_by c.args.ty.now c.in-Prod.a c.in-Prod.b c.get-in-Prod.result.now c.get-in-Prod-2.result.now c.above-in-Prod.result c.beside.result c.type_bulk-in-Prod.result c.type_bulk-in-Prod-2.result
    c.in-Prod.is c.get-in-Prod.ensures c.get-in-Prod-2.ensures c.type_bulk-in-Prod.ensures c.type_bulk-in-Prod-2.ensures c.beside.ensures c.above-in-Prod.ensures

pub type_bulk-type_bulk-requires-in-Prod-2 : goal.type_bulk-type_bulk-requires-in-Prod-2
type_bulk-type_bulk-requires-in-Prod-2 t c = (let r = right_rank c.args.ty.now c.in-Prod.a c.in-Prod.b c.get-in-Prod-2.result.now c.in-Prod.is c.get-in-Prod-2.ensures in let d = c.decreases in omega (arith, r, d), tt)

pub types_bulk-type_bulk-requires : goal.types_bulk-type_bulk-requires
types_bulk-type_bulk-requires t c = (let r = item_rank c.args.types.now c.loop-left.left.now c.in-More.rest c.in-More.a c.get.result.now c.in-More.is c.get.ensures c.loop-left.invariant.2 in let d = c.decreases in omega (arith, r, d), tt)

pub types_bulk-loop-left-preserved : goal.types_bulk-loop-left-preserved
types_bulk-loop-left-preserved t c = (
  types_step (types_bulk c.args.types.now) c.loop-left.all c.beside-all.result c.type_bulk.result c.loop-left.left.now c.in-More.rest c.get-left.result.now c.in-More.a c.get.result.now
      c.in-More.is c.get.ensures c.get-left.ensures c.type_bulk.ensures c.beside-all.ensures c.loop-left.invariant.0,
  small_beside c.beside-all.result c.loop-left.all c.type_bulk.result c.beside-all.ensures,
  rest_size c.args.types.now c.loop-left.left.now c.in-More.rest c.get-left.result.now c.in-More.a c.in-More.is c.get-left.ensures c.loop-left.invariant.2,
)
