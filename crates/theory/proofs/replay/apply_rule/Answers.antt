use Rattle.std.proofs.Common.{List, IfNone, subst}
use Rattle.ev_typing.specs.declared.typing.Sequent.{Sequent}
use Rattle.theory.specs.Steps.{ReadsUp}
use Rattle.theory.proofs.StepLaws.{none_up}
use Rattle.theory.proofs.replay.apply_rule.Goals as goal

pub returns-in-None : goal.returns-in-None
returns-in-None c = (c.requires, none_up c.args.env.now c.args.goal.now c.args.step (subst (λ o. IfNone o ((gs : List Sequent) → ReadsUp c.args.env.now c.args.goal.now c.args.step gs → ⊥)) c.in-None.is c.in_ok-goals.ensures.none))
