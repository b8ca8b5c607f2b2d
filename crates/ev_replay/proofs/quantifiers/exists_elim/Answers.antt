use Rattle.std.proofs.Common.{[], ◌∷◌, ◌∙◌, ap, subst}
use Rattle.ev_forms.specs.Forms.{exists}
use Rattle.ev_typing.specs.Sequents.{◌⊢◌, ◌▹◌}
use Rattle.ev_typing.specs.BaseSequents.{under}
use Rattle.ev_replay.specs.Reading.{ReadsFormula}
use Rattle.ev_replay.specs.inner.Finding.{Only}
use Rattle.ev_replay.proofs.Finding.{by_two, by_nothing}
use Rattle.ev_replay.proofs.Forms.{one_exists}
use Rattle.ev_replay.proofs.quantifiers.exists_elim.Goals as goal

pub returns-in-Some-bound_parts : goal.returns-in-Some-bound_parts
returns-in-Some-bound_parts c =
    let S = c.args.goal.now in
    let reads = ReadsFormula c.args.scope.now.env c.args.scope.now.params S c.args.raw.now in
    by_two reads exists (λ A Q. (S ⊢ exists A Q) ∷ (under S A ▹ Q) ∷ []) one_exists c.in-Some.formula c.in-Some-bound_parts.ty.now c.in-Some-bound_parts.body.now c.in_ok-two-in-Some-bound_parts.field-0
    (subst (Only reads) c.in-Some.is c.in_ok-formula.ensures) c.in-Some-bound_parts.ensures.found
    (c.in_ok-two-in-Some-bound_parts.ensures
    ∙ ap (λ s. s ∷ c.in_ok-second-in-Some-bound_parts.second ∷ []) (c.in_ok-first-in-Some-bound_parts.ensures ∙ ap (λ t. (S ⊢ t)) c.in-Some-bound_parts.ensures.found)
    ∙ ap (λ s. (S ⊢ exists c.in-Some-bound_parts.ty.now c.in-Some-bound_parts.body.now) ∷ s ∷ []) c.in_ok-second-in-Some-bound_parts.ensures)

pub returns : goal.returns
returns c =
    let S = c.args.goal.now in
    let reads = ReadsFormula c.args.scope.now.env c.args.scope.now.params S c.args.raw.now in
    by_nothing reads exists (λ A Q. (S ⊢ exists A Q) ∷ (under S A ▹ Q) ∷ []) (subst (Only reads) c.in-None.is c.in_ok-formula.ensures)
