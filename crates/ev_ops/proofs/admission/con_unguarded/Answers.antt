use Rattle.ev_ops.specs.inner.Tests.{IsUnguardedCase}
use Rattle.ev_ops.proofs.Admitting.{item_more}
use Rattle.ev_ops.proofs.admission.con_unguarded.Goals as goal

pub loop-case-preserved : goal.loop-case-preserved
loop-case-preserved c =
    item_more (IsUnguardedCase c.args.guard.now.sig.now c.args.guard.now.place c.args.guard.now.own.now c.args.guard.now.types.now c.args.guard.now.con.now) c.args.cases.now c.loop-case.case-index c.case-item.result c.is_unguarded.result
    c.case-item.is c.loop-case-test.true c.if-is_unguarded.false c.is_unguarded.ensures c.loop-case.invariant
