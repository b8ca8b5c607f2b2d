-- Facts on literals.
use Rattle.std.specs.Prelude.{◌≡◌, ◌≢◌, ◌↔◌, ◌+◌, ◌*◌, ◌<◌, ◌≤◌, ℕ, Bool as Boolean, true, List, [], ◌∷◌, IsTrue, refl}
use Rattle.std.proofs.Common.{sym, ◌∙◌}
use Rattle.ev_terms.specs.declared.types.Ty.{Ty, Int}
use Rattle.ev_terms.specs.declared.types.Tys.{Tys}
use Rattle.ev_terms.specs.declared.types.Sym.{Sym}
use Rattle.ev_terms.specs.Types.{More-more}
use Rattle.ev_terms.specs.Term.{Term, lit, node, nil, cons, terms, terms_one}
use Rattle.ev_forms.specs.Base.{at_type}
use Rattle.ev_forms.specs.Forms.{eq, neg, less, at_most, plus, times}
use Rattle.ev_forms.proofs.Views.{not_two}
use Rattle.ev_kernel.proofs.Binding.{one_type}
use Rattle.ev_kernel.specs.Row.{IsCalculated, sum, product, order, strict_order, difference}

pub ruleset literal_pairs = (not_two, More-more)

-- a node with other than two children
pub no_pair : (t : Term) (s : Sym) (As : Tys) (ts : List Term) → t ≡ node s As (terms ts) → ((u v : Term) → ts ≢ u ∷ v ∷ []) → (k : Sym) (Bs : Tys) (u v : Term) → t ≢ node k Bs (cons u (cons v nil))
no_pair t s As ts e n k Bs u v f =
    let q : node s As (terms ts) ≡ node k Bs (terms (u ∷ v ∷ [])) = sym e ∙ f in
    let r : terms ts ≡ terms (u ∷ v ∷ []) = cc in
    n u v (terms_one ts (u ∷ v ∷ []) r)

-- an equation at another type
pub other_type : (u : Term) (A : Ty) (l r : Term) → u ≡ eq A l r → ¬ (A ≡ Int) → (t : Term) (n : ℕ) → u ≢ eq Int t (lit n)
other_type u A l r e n t k f = n (let h : eq A l r ≡ eq Int t (lit k) = sym e ∙ f in let q : at_type A ≡ at_type Int = cc in one_type A Int q)

-- Each kind of fact.
abbrev pub IsSum : Term → Type 0
IsSum G = (a b : ℕ) × (G ≡ eq Int (plus (lit a) (lit b)) (lit (a + b)))

abbrev pub IsProduct : Term → Type 0
IsProduct G = (a b : ℕ) × (G ≡ eq Int (times (lit a) (lit b)) (lit (a * b)))

abbrev pub IsOrder : Term → Type 0
IsOrder G = (a b : ℕ) × (a ≤ b) × (G ≡ at_most (lit a) (lit b))

abbrev pub IsStrictOrder : Term → Type 0
IsStrictOrder G = (a b : ℕ) × (a < b) × (G ≡ less (lit a) (lit b))

abbrev pub IsDifference : Term → Type 0
IsDifference G = (a b : ℕ) × (a ≢ b) × (G ≡ neg (eq Int (lit a) (lit b)))

pub by_sum : (G : Term) → IsSum G → IsTrue true ↔ IsCalculated G
by_sum G (a, b, e) = (λ y. sum a b e, λ h. refl)

pub by_product : (G : Term) → IsProduct G → IsTrue true ↔ IsCalculated G
by_product G (a, b, e) = (λ y. product a b e, λ h. refl)

pub by_order : (G : Term) → IsOrder G → IsTrue true ↔ IsCalculated G
by_order G (a, b, l, e) = (λ y. order a b l e, λ h. refl)

pub by_strict_order : (G : Term) → IsStrictOrder G → IsTrue true ↔ IsCalculated G
by_strict_order G (a, b, l, e) = (λ y. strict_order a b l e, λ h. refl)

pub by_difference : (G : Term) (d : Boolean) → ¬ IsSum G → ¬ IsProduct G → ¬ IsOrder G → ¬ IsStrictOrder G → (IsTrue d ↔ IsDifference G) → IsTrue d ↔ IsCalculated G
by_difference G d s p o t k = (λ y. to (k.0 y), λ h. k.1 (only h))
  where
    to : IsDifference G → IsCalculated G
    to (a, b, n, e) = difference a b n e

    only : IsCalculated G → IsDifference G
    only (sum a b e) = absurd (s (a, b, e))
    only (product a b e) = absurd (p (a, b, e))
    only (order a b l e) = absurd (o (a, b, l, e))
    only (strict_order a b l e) = absurd (t (a, b, l, e))
    only (difference a b n e) = (a, b, n, e)
