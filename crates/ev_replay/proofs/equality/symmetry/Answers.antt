use Rattle.std.proofs.Common.{[], ◌∷◌, ap, ◌∙◌}
use Rattle.ev_forms.specs.Binders.{equated}
use Rattle.ev_forms.specs.Forms.{equation}
use Rattle.ev_typing.specs.Sequents.{◌⊢◌}
use Rattle.ev_replay.proofs.Equations.{exchanged}
use Rattle.ev_replay.proofs.equality.symmetry.Goals as goal

pub returns-in_ok-one_goal-in-Some : goal.returns-in_ok-one_goal-in-Some
returns-in_ok-one_goal-in-Some c =
    exchanged c.args.goal.now (equated c.in-Some.types.now) c.in-Some.left.now c.in-Some.right.now c.in_ok-one_goal-in-Some.field-0 c.in-Some.ensures.found.0
    (c.in_ok-one_goal-in-Some.ensures ∙ ap (λ t. (c.args.goal.now ⊢ t) ∷ []) (c.in_ok-exchanged-in-Some.ensures ∙ ap (λ A. equation A c.in-Some.right.now c.in-Some.left.now) c.in_ok-ty-in-Some.ensures))
