use Rattle.std.proofs.Common.{[], ◌∷◌, ◌∙◌, ap, sym, subst}
use Rattle.ev_forms.specs.Forms.{equation}
use Rattle.ev_typing.specs.Sequents.{◌⊢◌}
use Rattle.ev_replay.specs.Reading.{ReadsTerm}
use Rattle.ev_replay.specs.inner.Finding.{Only}
use Rattle.ev_replay.proofs.Quantified.{middle, no_middle}
use Rattle.ev_replay.proofs.equality.transitivity.Goals as goal

pub returns-in-Some-2 : goal.returns-in-Some-2
returns-in-Some-2 c =
    let S = c.args.goal.now in
    let A = c.in_ok-ty-in-Some.ty in
    middle c.args.scope.now.env c.args.scope.now.params S c.args.raw.now A c.in-Some.left.now c.in-Some.right.now c.in-Some-2.middle c.in_ok-two_goals-in-Some-2.field-0
    (c.in-Some.ensures.found.0 ∙ ap (λ X. equation X c.in-Some.left.now c.in-Some.right.now) (sym c.in_ok-ty-in-Some.ensures))
    (subst (Only (ReadsTerm c.args.scope.now.env c.args.scope.now.params S A c.args.raw.now)) c.in-Some-2.is c.in_ok-middle-in-Some.ensures)
    (c.in_ok-two_goals-in-Some-2.ensures ∙ ap (λ x. (S ⊢ x) ∷ (S ⊢ c.in_ok-second-in-Some-2.second) ∷ []) c.in_ok-first-in-Some-2.ensures
    ∙ ap (λ x. (S ⊢ equation A c.in-Some.left.now c.in-Some-2.middle) ∷ (S ⊢ x) ∷ []) c.in_ok-second-in-Some-2.ensures)

pub returns-in-Some : goal.returns-in-Some
returns-in-Some c =
    let S = c.args.goal.now in
    let A = c.in_ok-ty-in-Some.ty in
    no_middle c.args.scope.now.env c.args.scope.now.params S c.args.raw.now A c.in-Some.left.now c.in-Some.right.now
    (c.in-Some.ensures.found.0 ∙ ap (λ X. equation X c.in-Some.left.now c.in-Some.right.now) (sym c.in_ok-ty-in-Some.ensures))
    (subst (Only (ReadsTerm c.args.scope.now.env c.args.scope.now.params S A c.args.raw.now)) c.in-None-2.is c.in_ok-middle-in-Some.ensures)
