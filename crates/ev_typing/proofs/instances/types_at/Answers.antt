use Rattle.std.proofs.Common.{ap, ◌∙◌}
use Rattle.ev_terms.specs.Substitution.{type_inst, type_at}
use Rattle.ev_typing.proofs.Signatures.{types_step}
use Rattle.ev_typing.proofs.instances.types_at.Goals as goal

pub loop-left-preserved : goal.loop-left-preserved
loop-left-preserved c =
    types_step (type_at c.args.types.now) _ _ _ _ _ _ _ _ c.in-More.is (c.in_ok-instantiate_type.ensures ∙ ap (type_inst (type_at c.args.types.now)) c.get.ensures) c.in_ok-push.ensures.ok c.get-left.ensures c.loop-left.invariant
