use Rattle.std.proofs.Common.{◌∙◌}
use Rattle.ev_terms.proofs.TypeSteps.{list_step}
use Rattle.ev_terms.proofs.types.Tys.to_vec.Goals as goal

pub loop-left-preserved : goal.loop-left-preserved
loop-left-preserved c =
    list_step _ _ _ _ _ _ _ _ c.in-More.is c.get-left.ensures (c.in_ok-try_copy.ensures ∙ c.get.ensures) c.in_ok-push.ensures.items c.loop-left.invariant
