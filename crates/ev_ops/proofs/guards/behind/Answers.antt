use Rattle.std.proofs.Common.{refl}
use Rattle.ev_ops.proofs.Guarding.{behind_step, behind_here, behind_next}
use Rattle.ev_ops.proofs.guards.behind.Goals as goal

pub returns-then-further-eq0 : goal.returns-then-further-eq0
returns-then-further-eq0 c =
    behind_here c.get-left.result.now c.loop-left.further _ c.if-further-eq0.true
    (behind_step c.loop-left.left.now c.in-More.rest c.get-left.result.now c.in-More.field-0 c.loop-left.further _ c.in-More.is c.get-left.ensures c.loop-left.invariant)

pub loop-left-preserved : goal.loop-left-preserved
loop-left-preserved c =
    behind_next c.get-left.result.now c.loop-left.further _ _ c.if-further-eq0.false refl
    (behind_step c.loop-left.left.now c.in-More.rest c.get-left.result.now c.in-More.field-0 c.loop-left.further _ c.in-More.is c.get-left.ensures c.loop-left.invariant)
