use Rattle.ev_terms.proofs.TypeSteps.{get_step}
use Rattle.ev_terms.proofs.types.Tys.get.Goals as goal

pub loop-left-preserved : goal.loop-left-preserved
loop-left-preserved c = get_step _ _ _ _ _ _ c.in-More.is c.get-left.ensures c.if-at-eq0.false c.loop-left.invariant
