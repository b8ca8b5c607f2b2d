use Rattle.ev_typing.proofs.Signatures.{count_step}
use Rattle.ev_typing.proofs.instances.has_count.Goals as goal

pub loop-left-preserved : goal.loop-left-preserved
loop-left-preserved c = count_step _ _ _ _ _ _ c.in-More.is c.get-left.ensures c.if-missing-eq0.false c.loop-left.invariant
