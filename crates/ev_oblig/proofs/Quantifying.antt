-- Quantifiers and connectives as the code builds them.
use Rattle.std.proofs.Common.{◌≡◌, ◌≢◌, ℕ, zero, suc, ◌+◌, ◌-◌, ◌≤◌, ◌<◌, false, List, [], ◌∷◌, ◌++◌, length, take, drop, get_or, ap, sym, ◌∙◌, refl, arith}
use Rattle.std.specs.Prelude.{pred, fold, Result, Ok, Err, IfOk}
use Rattle.ev_terms.specs.declared.values.NoMemory.{NoMemory}
use Rattle.ev_terms.specs.declared.types.Ty.{Ty}
use Rattle.ev_terms.specs.Term.{Term, var}
use Rattle.ev_terms.specs.Substitution.{inst, entry, substitute as put}
use Rattle.ev_typing.specs.Occurs.{has_var}
use Rattle.ev_typing.proofs.Names.{drop_at, drop_all}
use Rattle.ev_data.proofs.Lists.{take_last, take_all}
use Rattle.ev_forms.specs.Forms.{truth}
use Rattle.ev_wd.specs.Limits.{IsSmall}
use Rattle.ev_wd.specs.Makers.{make_imp, make_all, lowered}
use Rattle.ev_wd.proofs.Replacing.{inst_but}
use Rattle.ev_wd.proofs.Making.{all_body, all_true, imp_right, imp_left, imp_right_true}
use Rattle.ev_oblig.specs.Obligations.{make_alls}

-- a term without a variable that does not occur in it is that with any term put in
pub lowered_put : (t : Term) (ts : List Term) (u : Term) → has_var 0 t ≡ false → ts ≡ truth ∷ [] → u ≡ put t ts → u ≡ lowered t
lowered_put t ts u h e p =
    p ∙ ap (λ us. inst (entry us) t) e ∙ inst_but t 0 (entry (truth ∷ [])) (λ i. var (pred i)) each h
  where
    each : (i : ℕ) → (i ≡ 0 → ⊥) → entry (truth ∷ []) i ≡ var (pred i)
    each zero g = absurd (g refl)
    each (suc i) g = refl

pub lowered_answer : (r : Result Term NoMemory) (t : Term) (ts : List Term) → has_var 0 t ≡ false → ts ≡ truth ∷ [] → IfOk r (λ u. u ≡ put t ts) → IfOk r (λ u. u ≡ lowered t)
lowered_answer (Ok u) t ts h e p = lowered_put t ts u h e p
lowered_answer (Err x) t ts h e p = p

-- quantifiers, from the innermost on
alls_last : (As : List Ty) (A : Ty) (P : Term) → make_alls (As ++ A ∷ []) P ≡ make_alls As (make_all A P)
alls_last [] A P = refl
alls_last (B ∷ As) A P = ap (make_all B) (alls_last As A P)

pub alls_step : (As : List Ty) (t new whole : Term) (left next : ℕ) (A : Ty) → 0 < left → next ≡ left - 1 → A ≡ get_or As next A → next < length As → new ≡ make_all A t →
    make_alls (take left As) t ≡ whole → make_alls (take next As) new ≡ whole
alls_step As t new whole zero next A h p g k r e = absurd (omega (arith, h))
alls_step As t new whole (suc left) next A h p g k r e =
    let s : suc left ≡ suc next = omega arith in
    ap (make_alls (take next As)) r ∙ sym (alls_last (take next As) A t)
    ∙ ap (λ Bs. make_alls Bs t) (sym (take_last As next A g k)) ∙ ap (λ j. make_alls (take j As) t) (sym s) ∙ e

pub alls_begin : (As : List Ty) (n : ℕ) (t : Term) → n ≡ length As → make_alls (take n As) t ≡ make_alls As t
alls_begin As n t e = ap (λ k. make_alls (take k As) t) e ∙ ap (λ Bs. make_alls Bs t) (take_all As)

pub alls_end : (As : List Ty) (t whole : Term) (left : ℕ) → left ≡ 0 → make_alls (take left As) t ≡ whole → t ≡ whole
alls_end As t whole left p e = ap (λ k. make_alls (take k As) t) (sym p) ∙ e

pub ruleset quantified = (alls_begin, alls_end)

-- what is quantified is no smaller than what stands under it
pub alls_body : (As : List Ty) (P : Term) → IsSmall (make_alls As P) → IsSmall P
alls_body [] P h = h
alls_body (A ∷ As) P h = alls_body As P (all_body A (make_alls As P) h)

pub alls_guarded : (As : List Ty) (P Q : Term) → IsSmall (make_alls As (make_imp P Q)) → IsSmall Q
alls_guarded As P Q h = imp_right P Q (alls_body As (make_imp P Q) h)

pub alls_guard : (As : List Ty) (P Q : Term) → Q ≢ truth → IsSmall (make_alls As (make_imp P Q)) → IsSmall P
alls_guard As P Q ne h = imp_left P Q ne (alls_body As (make_imp P Q) h)

-- and `true` under quantifiers is `true`
alls_truth : (As : List Ty) → truth ≡ make_alls As truth
alls_truth [] = refl
alls_truth (A ∷ As) = all_true A truth refl ∙ ap (make_all A) (alls_truth As)

pub alls_true : (As : List Ty) (P Q : Term) → Q ≡ truth → Q ≡ make_alls As (make_imp P Q)
alls_true As P Q e = e ∙ alls_truth As ∙ ap (make_alls As) (imp_right_true P Q e)

pub alls_known : (As : List Ty) (P Q D : Term) → D ≡ Q → D ≡ truth → D ≡ make_alls As (make_imp P Q)
alls_known As P Q D e f = e ∙ alls_true As P Q (sym e ∙ f)

-- predicates joined from the left
pub fold_step : (f : Term → Term → Term) (ts : List Term) (i : ℕ) (t all new whole : Term) → t ≡ get_or ts i t → i < length ts → new ≡ f all t → fold f all (drop i ts) ≡ whole →
    fold f new (drop (i + 1) ts) ≡ whole
fold_step f ts i t all new whole p h e q = ap (λ x. fold f x (drop (i + 1) ts)) e ∙ sym (ap (fold f all) (drop_at ts i t p h)) ∙ q

pub fold_end : (f : Term → Term → Term) (ts : List Term) (i : ℕ) (all whole : Term) → length ts ≤ i → fold f all (drop i ts) ≡ whole → all ≡ whole
fold_end f ts i all whole h q = sym (ap (fold f all) (drop_all ts i h)) ∙ q

pub ruleset folded = (fold_step, fold_end)
