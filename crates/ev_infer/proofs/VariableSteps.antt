-- What the code for names that stand alone needs.
use Rattle.std.specs.Prelude.{◌≡◌, ◌↔◌, ℕ, ◌-◌, ◌<◌, ◌≤◌, ◌==◌, [], ◌∷◌, Bool as Boolean, true, false, IsTrue, List, length, reverse, Option, Some, None, refl}
use Rattle.std.proofs.Common.{ap, sym, ◌∙◌, arith, get_or, subst as transport}
use Rattle.std.proofs.lemmas.Bool.{eqb-true}
use Rattle.std.proofs.lemmas.List.{get_or-reverse, length-reverse}
use Rattle.std.proofs.lemmas.Option.{slice_get-get_or, slice_get_within}
use Rattle.ev_terms.specs.declared.types.Ty.{Ty}
use Rattle.ev_typing.specs.Typing.{var_type}
use Rattle.ev_syntax.specs.Raw.{Raw, call}
use Rattle.ev_syntax.specs.inner.RawView.{raws}
use Rattle.ev_resolve.specs.Bare.{Bare, bare_var, bare_lit, bare_node, bare_of}
use Rattle.ev_infer.specs.inner.Variables.{is_name, IsVariable, FitsAsked, StandsAlone}

pub type_inside : (C : List Ty) (i : ℕ) (A : Ty) → A ≡ get_or C (length C - 1 - i) A → i < length C → var_type C i ≡ Some A
type_inside C i A e h =
    let k : i < length (reverse C) = rw length-reverse h in
    slice_get-get_or (reverse C) i A k ∙ ap (λ q. Some q) (get_or-reverse C i A h ∙ sym e)

pub type_outside : (C : List Ty) (i : ℕ) (A : Ty) → length C ≤ i → var_type C i ≡ Some A → ⊥
type_outside C i A h e =
    let k : length (reverse C) ≡ length C = length-reverse C in
    omega (arith, h, k, slice_get_within (reverse C) i A e)

pub own_type : (A B : Ty) → Some A ≡ Some B → B ≡ A
own_type A B e = cc

pub fits_none : (C : List Ty) (i : ℕ) (A : Ty) → var_type C i ≡ Some A → FitsAsked C i None
fits_none C i A e = (A, e, tt)

pub fits_some : (C : List Ty) (i : ℕ) (A B : Ty) (b : Boolean) → var_type C i ≡ Some A → (IsTrue b ↔ (B ≡ A)) → (IsTrue b ↔ FitsAsked C i (Some B))
fits_some C i A B b e h = (λ y. (A, e, h.0 y), λ (D, f, q). h.1 (q ∙ own_type A D (sym e ∙ f)))

pub misfit : (C : List Ty) (i : ℕ) (o : Option Ty) → length C ≤ i → (IsTrue false ↔ FitsAsked C i o)
misfit C i o h = (λ y. cc, λ (A, e, q). absurd (type_outside C i A h e))

pub ruleset types = (type_inside, fits_none, fits_some, misfit)

pub named_call : (n : List ℕ) (es : List Raw) → (length es == 0) ≡ is_name (call n (raws es))
named_call n [] = refl
named_call n (e ∷ es) = go (length (e ∷ es) == 0) refl
  where
    go : (b : Boolean) → (length (e ∷ es) == 0) ≡ b → (length (e ∷ es) == 0) ≡ false
    go true q = absurd (omega (arith, eqb-true (length (e ∷ es)) 0 q))
    go false q = q

pub ruleset names = (named_call)

pub one_variable : (b : Bare) (C : List Ty) (i j : ℕ) → IsVariable b C i → IsVariable b C j → i ≡ j
one_variable (bare_var k) C i j h g = sym h ∙ g
one_variable (bare_lit n) C i j h g = absurd h
one_variable (bare_node s w bs) C i j h g = absurd h
one_variable (bare_of b A) C i j h g = one_variable b C i j h.0 g.0

both_ways : (b : Boolean) → b ≡ true → b ≡ false → ⊥
both_ways b e g = cc

pub other_type : (C : List Ty) (bare b : Bare) (A : Ty) (i : ℕ) (r : Boolean) → bare ≡ bare_of b A → IsVariable b C i → (IsTrue r ↔ FitsAsked C i (Some A)) → r ≡ false → (j : ℕ) → IsVariable bare C j → ⊥
other_type C bare b A i r e h t n j g =
    let (gb, ga) = transport (λ x. IsVariable x C j) e g in
    let q : var_type C i ≡ Some A = ap (var_type C) (one_variable b C i j h gb) ∙ ga in
    both_ways r (t.1 (A, q, refl)) n

pub own_type_said : (C : List Ty) (bare b : Bare) (A : Ty) (i : ℕ) (r : Boolean) → bare ≡ bare_of b A → IsVariable b C i → (IsTrue r ↔ FitsAsked C i (Some A)) → r ≡ true → IsVariable bare C i
own_type_said C bare b A i r e h t y =
    let (B, q, s) = t.0 y in
    transport (λ x. IsVariable x C i) (sym e) (h, q ∙ ap (λ D. Some D) (sym s))

pub ruleset variables = (other_type, own_type_said)

module _ (raw : Raw) (b : Bare) (C : List Ty) (expected : Option Ty) where
  pub unnamed : is_name raw ≡ false → (i : ℕ) → ¬ StandsAlone raw b C expected i
  unnamed e i s = both_ways (is_name raw) s.name e

  pub no_variable : ((i : ℕ) → ¬ IsVariable b C i) → (i : ℕ) → ¬ StandsAlone raw b C expected i
  no_variable n i s = n i s.is_variable

  pub no_fit : (i : ℕ) (r : Boolean) → IsVariable b C i → (IsTrue r ↔ FitsAsked C i expected) → r ≡ false → (j : ℕ) → ¬ StandsAlone raw b C expected j
  no_fit i r h t n j s = both_ways r (t.1 (transport (λ k. FitsAsked C k expected) (one_variable b C j i s.is_variable h) s.fits)) n

  pub stands : (i : ℕ) (r : Boolean) → is_name raw ≡ true → IsVariable b C i → (IsTrue r ↔ FitsAsked C i expected) → r ≡ true → StandsAlone raw b C expected i
  stands i r e h t y = record { name = e; is_variable = h; fits = t.0 y }

pub ruleset answers = (unnamed, no_variable, no_fit, stands)
