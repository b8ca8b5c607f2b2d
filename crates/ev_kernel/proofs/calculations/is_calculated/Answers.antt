use Rattle.ev_kernel.proofs.Equations.{apart}
use Rattle.ev_kernel.proofs.Calculated.{by_sum, by_product, by_order, by_strict_order, by_difference}
use Rattle.ev_kernel.proofs.calculations.is_calculated.Goals as goal

pub returns-then-adds : goal.returns-then-adds
returns-then-adds c = by_sum c.args.tree.now (c.adds.ensures.0 c.if-adds.true)

pub returns-then-multiplies : goal.returns-then-multiplies
returns-then-multiplies c = by_product c.args.tree.now (c.multiplies.ensures.0 c.if-multiplies.true)

pub returns-then-orders : goal.returns-then-orders
returns-then-orders c = by_order c.args.tree.now (c.orders.ensures.0 c.if-orders.true)

pub returns-then-orders_strictly : goal.returns-then-orders_strictly
returns-then-orders_strictly c = by_strict_order c.args.tree.now (c.orders_strictly.ensures.0 c.if-orders_strictly.true)

pub returns : goal.returns
returns c =
    by_difference c.args.tree.now c.differs.result (apart c.adds.result c.adds.ensures c.if-adds.false) (apart c.multiplies.result c.multiplies.ensures c.if-multiplies.false)
    (apart c.orders.result c.orders.ensures c.if-orders.false) (apart c.orders_strictly.result c.orders_strictly.ensures c.if-orders_strictly.false) c.differs.ensures
