use Rattle.ev_terms.proofs.TypeSteps.{count_step}
use Rattle.ev_terms.proofs.types.Tys.len.Goals as goal

pub loop-left-preserved : goal.loop-left-preserved
loop-left-preserved c = count_step _ _ _ _ _ _ c.in-More.is c.get-left.ensures c.loop-left.invariant
