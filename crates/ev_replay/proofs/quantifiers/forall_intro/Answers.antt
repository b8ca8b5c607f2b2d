use Rattle.std.proofs.Common.{[], ◌∷◌, ap, ◌∙◌}
use Rattle.ev_forms.specs.Forms.{forall}
use Rattle.ev_typing.specs.Sequents.{◌⊢◌}
use Rattle.ev_typing.specs.BaseSequents.{widened, under}
use Rattle.ev_replay.proofs.Finding.{fits_two}
use Rattle.ev_replay.proofs.Forms.{one_forall}
use Rattle.ev_replay.proofs.quantifiers.forall_intro.Goals as goal

pub returns-in_ok-one-in-Some : goal.returns-in_ok-one-in-Some
returns-in_ok-one-in-Some c =
    fits_two c.args.goal.now forall (λ A P. (under c.args.goal.now A ⊢ P) ∷ []) one_forall c.in-Some.ty.now c.in-Some.body.now c.in_ok-one-in-Some.field-0 c.in-Some.ensures.found
    (c.in_ok-one-in-Some.ensures ∙ ap (λ s. s ∷ []) (c.in_ok-opened-in-Some.ensures ∙ ap (λ As. (widened c.args.goal.now As ⊢ c.in-Some.body.now)) c.from_ref.ensures.value))
