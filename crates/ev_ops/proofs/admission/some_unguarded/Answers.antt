use Rattle.ev_ops.specs.inner.Tests.{HasUnguarded}
use Rattle.ev_ops.proofs.Admitting.{item_more}
use Rattle.ev_ops.proofs.admission.some_unguarded.Goals as goal

pub loop-con-preserved : goal.loop-con-preserved
loop-con-preserved c =
    item_more (λ k. HasUnguarded c.args.sig.now c.args.place c.args.own.now c.args.types.now k c.args.cases.now) c.args.cons.now c.loop-con.con-index c.con-item.result c.con_unguarded.result
    c.con-item.is c.loop-con-test.true c.if-con_unguarded.false c.con_unguarded.ensures c.loop-con.invariant
