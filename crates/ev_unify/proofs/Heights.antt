-- The heights by which links fall.
use Rattle.std.specs.Prelude.{◌≡◌, ℕ, zero, suc, ◌+◌, ◌<◌, ◌⊎◌, Bool as Boolean, true, false, List, [], ◌∷◌, length, slice_index, if◌then◌else◌, refl}
use Rattle.std.proofs.Common.{ap, sym, ◌∙◌, arith, inl, inr, set}
use Rattle.ev_unify.specs.declared.patterns.Pat.{Pat, Int, Bool, Param, Data, Unknown}
use Rattle.ev_unify.specs.Patterns.{pow_pat, prod_pat}
use Rattle.ev_unify.specs.inner.Parts.{Head, int_head, bool_head, prop_head, param_head, pow_head, prod_head, data_head, unknown_head, head, is_unknown}
use Rattle.ev_unify.specs.inner.Numbered.{part}
use Rattle.ev_unify.specs.inner.Links.{height, total_height}

pub height_unknown : (P : List Pat) (i : ℕ) → is_unknown (part P i) ≡ true → height P i ≡ length P + i
height_unknown P i e = ap (λ b. if b then length P + i else i) e

pub height_known : (P : List Pat) (i : ℕ) → is_unknown (part P i) ≡ false → height P i ≡ i
height_known P i e = ap (λ b. if b then length P + i else i) e

pub true_or : (b : Boolean) → (b ≡ true) ⊎ (b ≡ false)
true_or true = inl refl
true_or false = inr refl

-- what is linked to by a part that is no unknown is none either
pub known_below : (P : List Pat) (i j : ℕ) → i < length P → is_unknown (part P i) ≡ false → height P j < height P i → is_unknown (part P j) ≡ false
known_below P i j h known l =
    elim (true_or (is_unknown (part P j))) as (λ _. is_unknown (part P j) ≡ false) [
      | inl e ↦ absurd (omega (arith, h, l, height_unknown P j e, height_known P i known))
      | inr e ↦ e
    ]

abbrev unknown_form : Head → Boolean
unknown_form int_head = false
unknown_form bool_head = false
unknown_form prop_head = false
unknown_form (param_head i) = false
unknown_form pow_head = false
unknown_form prod_head = false
unknown_form (data_head n) = false
unknown_form (unknown_head u) = true

form_of : (p : Pat) → unknown_form (head p) ≡ is_unknown p
form_of Int = refl
form_of Bool = refl
form_of (Param i) = refl
form_of (pow_pat a) = refl
form_of (prod_pat a b) = refl
form_of (Data n ps) = refl
form_of (Unknown u) = refl

pub known_alike : (p q : Pat) → head p ≡ head q → is_unknown p ≡ false → is_unknown q ≡ false
known_alike p q e known = sym (form_of q) ∙ ap unknown_form (sym e) ∙ form_of p ∙ known

pub total-set : (P : List Pat) (L : List ℕ) (i v : ℕ) → i < length L → total_height P (set L i v) + height P (slice_index L i) ≡ total_height P L + height P v
total-set P [] i v h = absurd (omega (arith, h))
total-set P (j ∷ L) zero v h = omega arith
total-set P (j ∷ L) (suc i) v h = omega (arith, total-set P L i v (omega (arith, h)))

-- the tests of `goes_under`
pub apart_under : (P : List Pat) (a b : ℕ) → a < length P → b < length P → is_unknown (part P a) ≡ true → is_unknown (part P b) ≡ false → height P b < height P a
apart_under P a b h k e e' = omega (arith, h, k, height_unknown P a e, height_known P b e')

pub alike_under : (P : List Pat) (a b : ℕ) → is_unknown (part P a) ≡ is_unknown (part P b) → b < a → height P b < height P a
alike_under P a b e l =
    elim (true_or (is_unknown (part P a))) as (λ _. height P b < height P a) [
      | inl x ↦ omega (arith, l, height_unknown P a x, height_unknown P b (sym e ∙ x))
      | inr x ↦ omega (arith, l, height_known P a x, height_known P b (sym e ∙ x))
    ]

pub ruleset walk = (apart_under, alike_under)
