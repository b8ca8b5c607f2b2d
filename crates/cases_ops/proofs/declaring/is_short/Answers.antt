use Rattle.std.proofs.Common.{arith}
use Rattle.cases_ops.proofs.Operators.{short_step}
use Rattle.cases_ops.proofs.declaring.is_short.Goals as goal

pub loop-left-preserved : goal.loop-left-preserved
loop-left-preserved c = record {
  small = (let s = c.loop-left.invariant.small in omega (arith, s));
  counts =
      short_step c.loop-left.left.now c.in-More.rest c.get-left.result.now c.in-More.field-0 c.loop-left.room _ _ c.in-More.is c.get-left.ensures
      (let z = c.if-room-eq0.false in omega (arith, z)) c.loop-left.invariant.counts;
}
