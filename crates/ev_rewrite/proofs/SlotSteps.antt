-- What a value in a slot says of the values that agree with the slots.
use Rattle.std.proofs.Common.{◌≡◌, ℕ, zero, suc, ◌<◌, List, [], ◌∷◌, length, replicate, get_or, Option, Some, None, slice_get, slice_set, refl, sym, ap, ◌∙◌, arith}
use Rattle.std.specs.Prelude.{Bool, true, false, ◌||◌, ◌==◌, ◌↔◌, IsTrue}
use Rattle.std.proofs.lemmas.Bool.Decides.{nat_tests}
use Rattle.std.proofs.lemmas.Option.{slice_get-get_or}
use Rattle.ev_rewrite.specs.Matching.{Agree, IsFoundAt}
use Rattle.ev_rewrite.specs.inner.Slots.{IsOpenTo, IsPut, has_value, is_given}

or_false : (b : Bool) → b ≡ (b || false)
or_false true = refl
or_false false = refl

or_true : (b : Bool) → true ≡ (b || true)
or_true true = refl
or_true false = refl

-- empty slots
pub none_given : (X : Type 0) (n j : ℕ) → (let slots : List (Option X) = replicate n None in is_given slots j) ≡ false
none_given X zero j = refl
none_given X (suc n) zero = refl
none_given X (suc n) (suc j) = none_given X n j

pub all_agree : (X : Type 0) (n : ℕ) (vs : List X) → length vs ≡ n → Agree (replicate n None) vs
all_agree X zero [] e = tt
all_agree X zero (v ∷ vs) e = let no : ⊥ = omega (arith, e) in absurd no
all_agree X (suc n) [] e = let no : ⊥ = omega (arith, e) in absurd no
all_agree X (suc n) (v ∷ vs) e = (tt, all_agree X n vs (omega (arith, e)))

module _ {X : Type 0} where
  pub agree_put : (slots : List (Option X)) (at : ℕ) (x : X) (vs : List X) → IsOpenTo (slice_get slots at) x → Agree (slice_set slots at (Some x)) vs →
      Agree slots vs × (slice_get vs at ≡ Some x)
  agree_put [] at x vs o a = absurd o
  agree_put (s ∷ slots) zero x [] o a = absurd a
  agree_put (None ∷ slots) zero x (v ∷ vs) o a = ((tt, a.1), ap Some (sym a.0))
  agree_put (Some y ∷ slots) zero x (v ∷ vs) o a = ((o ∙ a.0, a.1), ap Some (sym a.0))
  agree_put (s ∷ slots) (suc at) x [] o a = absurd a
  agree_put (s ∷ slots) (suc at) x (v ∷ vs) o a =
      let r : Agree slots vs × (slice_get vs at ≡ Some x) = agree_put slots at x vs o a.1 in
      ((a.0, r.0), r.1)

  pub put_agrees : (slots : List (Option X)) (at : ℕ) (x : X) (vs : List X) → Agree slots vs → slice_get vs at ≡ Some x → Agree (slice_set slots at (Some x)) vs
  put_agrees [] at x [] a e = a
  put_agrees [] at x (v ∷ vs) a e = absurd a
  put_agrees (s ∷ slots) at x [] a e = absurd a
  put_agrees (s ∷ slots) zero x (v ∷ vs) a e = (let q : v ≡ x = cc in sym q, a.1)
  put_agrees (s ∷ slots) (suc at) x (v ∷ vs) a e = (a.0, put_agrees slots at x vs a.1 e)

  pub open_for : (slots : List (Option X)) (at : ℕ) (x : X) (vs : List X) → at < length slots → Agree slots vs → slice_get vs at ≡ Some x → IsOpenTo (slice_get slots at) x
  open_for [] at x vs h a e = let no : ⊥ = omega (arith, h) in absurd no
  open_for (s ∷ slots) at x [] h a e = absurd a
  open_for (None ∷ slots) zero x (v ∷ vs) h a e = tt
  open_for (Some y ∷ slots) zero x (v ∷ vs) h a e = let q : v ≡ x = cc in a.0 ∙ q
  open_for (s ∷ slots) (suc at) x (v ∷ vs) h a e = open_for slots at x vs (omega (arith, h)) a.1 e

  pub given_put : (slots : List (Option X)) (at : ℕ) (x : X) (j : ℕ) → at < length slots → is_given (slice_set slots at (Some x)) j ≡ (is_given slots j || (at == j))
  given_put [] at x j h = let no : ⊥ = omega (arith, h) in absurd no
  given_put (s ∷ slots) zero x zero h = or_true (has_value (Some s)) ∙ ap (λ b. has_value (Some s) || b) (grind (arith, nat_tests))
  given_put (s ∷ slots) zero x (suc j) h = or_false (is_given slots j) ∙ ap (λ b. is_given slots j || b) (grind (arith, nat_tests))
  given_put (s ∷ slots) (suc at) x zero h = or_false (has_value (Some s)) ∙ ap (λ b. has_value (Some s) || b) (grind (arith, nat_tests))
  given_put (s ∷ slots) (suc at) x (suc j) h =
      given_put slots at x j (omega (arith, h)) ∙ ap (λ b. is_given slots j || b) (grind (arith, nat_tests))

  -- what is given
  pub found_given : (slots : List (Option X)) (i : ℕ) → is_given slots i ≡ true → IsFoundAt slots i
  found_given slots i e = by (slice_get slots i) refl e
    where
      by : (o : Option (Option X)) → slice_get slots i ≡ o → has_value o ≡ true → IsFoundAt slots i
      by None p e = cc
      by (Some None) p e = cc
      by (Some (Some x)) p e = (x, p)

  pub given_found : (slots : List (Option X)) (i : ℕ) → IsFoundAt slots i → is_given slots i ≡ true
  given_found slots i (x, p) = ap has_value p

  pub agree_length : (slots : List (Option X)) (vs : List X) → Agree slots vs → length slots ≡ length vs
  agree_length [] [] a = refl
  agree_length [] (v ∷ vs) a = absurd a
  agree_length (s ∷ slots) [] a = absurd a
  agree_length (s ∷ slots) (v ∷ vs) a = ap suc (agree_length slots vs a.1)

  -- the code that puts a value into a slot
  set_same : (slots : List (Option X)) (at : ℕ) (o : Option X) → slice_get slots at ≡ Some o → slots ≡ slice_set slots at o
  set_same [] at o e = cc
  set_same (s ∷ slots) zero o e = let q : s ≡ o = cc in ap (λ x. x ∷ slots) q
  set_same (s ∷ slots) (suc at) o e = ap (λ xs. s ∷ xs) (set_same slots at o e)

  put_by : (slots : List (Option X)) (at : ℕ) (y x : X) (b : Bool) → slice_get slots at ≡ Some (Some y) → (IsTrue b ↔ (y ≡ x)) → IsPut slots at x slots b
  put_by slots at y x true e h =
      let q : y ≡ x = h.0 refl in
      (rw e q, set_same slots at (Some x) (e ∙ ap (λ z. Some (Some z)) q))
  put_by slots at y x false e h = λ o. let o' : y ≡ x = (rw e at o) in let no : IsTrue false = h.1 o' in cc

  pub put_known : (slots : List (Option X)) (at : ℕ) (o : Option X) (y x : X) (b : Bool) → at < length slots → o ≡ get_or slots at o → o ≡ Some y →
      (IsTrue b ↔ (y ≡ x)) → IsPut slots at x slots b
  put_known slots at o y x b h e k i = put_by slots at y x b (slice_get-get_or slots at o h ∙ ap Some (sym e ∙ k)) i

  pub put_free : (slots : List (Option X)) (at : ℕ) (o : Option X) (x : X) → at < length slots → o ≡ get_or slots at o → o ≡ None → IsOpenTo (slice_get slots at) x
  put_free slots at o x h e k = let p : slice_get slots at ≡ Some None = slice_get-get_or slots at o h ∙ ap Some (sym e ∙ k) in rw p tt
