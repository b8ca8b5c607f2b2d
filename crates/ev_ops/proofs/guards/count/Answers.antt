use Rattle.ev_ops.proofs.Guarding.{count_end}
use Rattle.ev_ops.proofs.guards.count.Goals as goal

pub returns : goal.returns
returns c = count_end c.loop-left.left.now c.loop-left.n _ c.in_default.not-More c.loop-left.invariant.small c.loop-left.invariant.so_far
