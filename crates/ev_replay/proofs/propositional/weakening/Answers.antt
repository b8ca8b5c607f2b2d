use Rattle.std.proofs.Common.{[], ◌∷◌, ◌∙◌, ap, subst}
use Rattle.ev_replay.specs.inner.Finding.{Only}
use Rattle.ev_replay.proofs.Contexts.{Chosen}
use Rattle.ev_replay.proofs.Finding.{by_one, by_none}
use Rattle.ev_replay.proofs.propositional.weakening.Goals as goal

pub returns-in_ok-one-in-Some : goal.returns-in_ok-one-in-Some
returns-in_ok-one-in-Some c =
    let hyps = subst (λ v. Only (Chosen v c.args.numbers.now) c.in_ok-hyps.field-0) c.as_slice.ensures (subst (λ v. Only (Chosen c.as_slice.result.now v) c.in_ok-hyps.field-0) c.as_slice-2.ensures c.in_ok-hyps.ensures) in
    by_one (Chosen c.args.goal.now.hyps c.args.numbers.now) (λ H. record { context = c.args.goal.now.context; hyps = H; goal = c.args.goal.now.goal } ∷ []) c.in-Some.hyps c.in_ok-one-in-Some.field-0
    (subst (Only (Chosen c.args.goal.now.hyps c.args.numbers.now)) c.in-Some.is hyps)
    (c.in_ok-one-in-Some.ensures ∙ ap (λ s. s ∷ []) c.in_ok-weaker-in-Some.ensures)

pub returns-in-None : goal.returns-in-None
returns-in-None c =
    let hyps = subst (λ v. Only (Chosen v c.args.numbers.now) c.in_ok-hyps.field-0) c.as_slice.ensures (subst (λ v. Only (Chosen c.as_slice.result.now v) c.in_ok-hyps.field-0) c.as_slice-2.ensures c.in_ok-hyps.ensures) in
    by_none (Chosen c.args.goal.now.hyps c.args.numbers.now) (λ H. record { context = c.args.goal.now.context; hyps = H; goal = c.args.goal.now.goal } ∷ [])
    (subst (Only (Chosen c.args.goal.now.hyps c.args.numbers.now)) c.in-None.is hyps)
