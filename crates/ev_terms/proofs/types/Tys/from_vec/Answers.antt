use Rattle.ev_terms.proofs.TypeSteps.{built_step}
use Rattle.ev_terms.proofs.types.Tys.from_vec.Goals as goal

pub loop-last-preserved : goal.loop-last-preserved
loop-last-preserved c = built_step _ _ _ c.in-Some.last c.loop-last.list c.in_ok-list.list c.in-Some.ensures.items c.in_ok-list.ensures.list c.loop-last.invariant
