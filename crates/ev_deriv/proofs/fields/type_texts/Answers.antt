use Rattle.ev_deriv.proofs.FieldSteps.{types_step}
use Rattle.ev_deriv.proofs.fields.type_texts.Goals as goal

pub loop-left-preserved : goal.loop-left-preserved
loop-left-preserved c = types_step _ _ _ _ _ _ _ _ _ c.in-More.is c.get.ensures c.get-left.ensures c.in_ok-print_type.ensures c.in_ok-push.ensures.ok c.loop-left.invariant
