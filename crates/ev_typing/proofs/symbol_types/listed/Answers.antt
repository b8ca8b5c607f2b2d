use Rattle.std.proofs.Common.{◌∙◌}
use Rattle.ev_typing.proofs.Signing.{list_step}
use Rattle.ev_typing.proofs.symbol_types.listed.Goals as goal

pub loop-left-preserved : goal.loop-left-preserved
loop-left-preserved c =
    list_step _ _ _ _ _ _ _ _ c.in-More.is (c.in_ok-try_copy.ensures ∙ c.get.ensures) c.in_ok-push.ensures.ok c.get-left.ensures c.loop-left.invariant
