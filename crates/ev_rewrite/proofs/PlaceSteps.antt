-- What the code that goes to places needs.
use Rattle.std.proofs.Common.{◌≡◌, ℕ, zero, suc, ◌-◌, ◌<◌, List, ◌∷◌, ◌++◌, length, take, Some, refl, sym, ap, ◌∙◌, arith, subst as transport}
use Rattle.std.proofs.lemmas.Option.{slice_get_within}
use Rattle.ev_terms.specs.declared.types.Ty.{Ty}
use Rattle.ev_terms.specs.declared.types.Tys.{Tys}
use Rattle.ev_terms.specs.declared.types.Tys.TheVariants.{More}
use Rattle.ev_terms.specs.Types.{type_list}
use Rattle.ev_terms.specs.Term.{Term, children}
use Rattle.ev_terms.proofs.TypeSteps.{type_list-More}
use Rattle.ev_rewrite.specs.Places.{child_at}

pub ruleset lists = (type_list-More)

-- a number at which there is a child
pub number_within : (t u : Term) (n : ℕ) → Some u ≡ child_at t n → n - 1 < length (children t)
number_within t u zero e = cc
number_within t u (suc i) e =
    let q : suc i - 1 ≡ i = omega arith in
    transport (λ k. k < length (children t)) (sym q) (slice_get_within (children t) i u (sym e))

-- the first types of a list
pub first_types : (list rest : Tys) (a first : Ty) (got : Tys) (n : ℕ) (inner Bs Cs : List Ty) → list ≡ More a rest → (n ≡ 0 → ⊥) → first ≡ a → got ≡ rest →
    Cs ≡ take (n - 1) (type_list got) ++ inner → Bs ≡ first ∷ Cs → Bs ≡ take n (type_list list) ++ inner
first_types list rest a first got zero inner Bs Cs e never p q r s = absurd (never refl)
first_types list rest a first got (suc n) inner Bs Cs e never p q r s =
    let k : suc n - 1 ≡ n = omega arith in
    s ∙ ap (λ x. x ∷ Cs) p ∙ ap (λ xs. a ∷ xs) (r ∙ ap (λ m. take m (type_list got) ++ inner) k ∙ ap (λ ts. take n (type_list ts) ++ inner) q)
    ∙ ap (λ xs. take (suc n) xs ++ inner) (sym (ap type_list e ∙ type_list-More a rest))
