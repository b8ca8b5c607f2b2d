use Rattle.std.proofs.Common.{sym}
use Rattle.ev_print.proofs.OpenSteps.{des_here, con_passed}
use Rattle.ev_print.proofs.annotations.data_type.Goals as goal

pub returns-then-has_field : goal.returns-then-has_field
returns-then-has_field c =
    des_here c.args.decl.now c.as_slice-con-items.result.now c.args.decl.now.cons c.loop-con.con-index c.con-item.result c.args.name.now c.as_slice-con-items.ensures c.con-item.is c.loop-con-test.true
    (sym c.if-eq.ensures) (sym c.if-has_field.ensures) c.loop-con.invariant

pub loop-con-preserved : goal.loop-con-preserved
loop-con-preserved c =
    con_passed c.args.decl.now c.as_slice-con-items.result.now c.args.decl.now.cons c.loop-con.con-index c.con-item.result c.args.name.now c.as_slice-con-items.ensures c.con-item.is c.loop-con-test.true
    (sym c.if-eq.ensures) (sym c.if-has_field.ensures) c.loop-con.invariant
