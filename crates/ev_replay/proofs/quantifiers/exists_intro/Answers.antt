use Rattle.std.proofs.Common.{[], ◌∷◌, ◌∙◌, ap, subst}
use Rattle.ev_typing.specs.Sequents.{◌⊢◌}
use Rattle.ev_replay.specs.Reading.{ReadsTerm}
use Rattle.ev_replay.specs.inner.Finding.{Only}
use Rattle.ev_replay.proofs.Quantified.{some_term, no_term}
use Rattle.ev_replay.proofs.quantifiers.exists_intro.Goals as goal

pub returns-in_ok-one_goal-in-Some-2 : goal.returns-in_ok-one_goal-in-Some-2
returns-in_ok-one_goal-in-Some-2 c =
    some_term c.args.scope.now.env c.args.scope.now.params c.args.goal.now c.args.raw.now c.in-Some.ty.now c.in-Some.body.now c.in-Some-2.term c.in_ok-one_goal-in-Some-2.field-0 c.in-Some.ensures.found
    (subst (Only (ReadsTerm c.args.scope.now.env c.args.scope.now.params c.args.goal.now c.in-Some.ty.now c.args.raw.now)) c.in-Some-2.is c.in_ok-term-in-Some.ensures)
    (c.in_ok-one_goal-in-Some-2.ensures ∙ ap (λ t. (c.args.goal.now ⊢ t) ∷ []) c.in_ok-instance-in-Some-2.ensures)

pub returns-in-None-2 : goal.returns-in-None-2
returns-in-None-2 c =
    no_term c.args.scope.now.env c.args.scope.now.params c.args.goal.now c.args.raw.now c.in-Some.ty.now c.in-Some.body.now c.in-Some.ensures.found
    (subst (Only (ReadsTerm c.args.scope.now.env c.args.scope.now.params c.args.goal.now c.in-Some.ty.now c.args.raw.now)) c.in-None-2.is c.in_ok-term-in-Some.ensures)
