-- The axioms that are kept.
use Rattle.std.specs.Prelude.{◌≡◌, ◌<◌, ◌+◌, ◌-◌, ◌≤◌, ◌++◌, ◌⊎◌, ℕ, zero, suc, nat_lt, true, false, List, [], ◌∷◌, Some, None, length, slice_get, refl}
use Rattle.std.proofs.Common.{ap, sym, ◌∙◌, subst, arith, inl, inr, ⊎_elim}
use Rattle.std.proofs.lemmas.Bool.{cases_Bool}
use Rattle.std.proofs.lemmas.Bool.Decides.{nat_tests}
use Rattle.std.proofs.lemmas.List.{length-append}
use Rattle.ev_terms.specs.Term.{Term}
use Rattle.ev_axioms.specs.Axioms.{axiom_row}
use Rattle.ev_axioms.specs.inner.Checks.{AreAxioms}
use Rattle.ev_axioms.proofs.Built.{no_row}

abbrev pub Each : List Term → Type 0
Each Ps = (j : ℕ) → j < length Ps → slice_get Ps j ≡ axiom_row (j + 1)

get_front : (xs ys : List Term) (j : ℕ) → j < length xs → slice_get (xs ++ ys) j ≡ slice_get xs j
get_front [] ys j h = absurd (omega (arith, h))
get_front (x ∷ xs) ys zero h = refl
get_front (x ∷ xs) ys (suc j) h = get_front xs ys j (omega (arith, h))

get_last : (xs : List Term) (x : Term) → slice_get (xs ++ x ∷ []) (length xs) ≡ Some x
get_last [] x = refl
get_last (y ∷ ys) x = get_last ys x

get_past : (xs : List Term) (j : ℕ) → length xs ≤ j → slice_get xs j ≡ None
get_past [] j h = refl
get_past (x ∷ xs) zero h = absurd (omega (arith, h))
get_past (x ∷ xs) (suc j) h = get_past xs j (omega (arith, h))

below_or_at : (j n : ℕ) → j < n + 1 → (j < n) ⊎ (j ≡ n)
below_or_at j n h = ⊎_elim (λ t. inl (below t)) (λ f. inr (at f)) (cases_Bool (nat_lt j n))
  where
    below : nat_lt j n ≡ true → j < n
    below t = grind (arith, nat_tests)

    at : nat_lt j n ≡ false → j ≡ n
    at f = grind (arith, nat_tests)

pub no_axioms : Each []
no_axioms j h = absurd (omega (arith, h))

pub each_more : (Ps new : List Term) (P : Term) (k : ℕ) → Each Ps → length Ps + 1 ≡ k → axiom_row k ≡ Some P → new ≡ Ps ++ P ∷ [] → Each new
each_more Ps new P k h e r q = subst Each (sym q) (λ j l. by j (below_or_at j (length Ps) (let n : length (Ps ++ P ∷ []) ≡ length Ps + 1 = length-append Ps (P ∷ []) in omega (arith, l, n))))
  where
    by : (j : ℕ) → (j < length Ps) ⊎ (j ≡ length Ps) → slice_get (Ps ++ P ∷ []) j ≡ axiom_row (j + 1)
    by j (inl l) = get_front Ps (P ∷ []) j l ∙ h j l
    by j (inr m) = ap (slice_get (Ps ++ P ∷ [])) m ∙ get_last Ps P ∙ sym r ∙ ap axiom_row (sym e) ∙ ap (λ i. axiom_row (i + 1)) (sym m)

pub count_more : (Ps new : List Term) (P : Term) (k : ℕ) → length Ps + 1 ≡ k → new ≡ Ps ++ P ∷ [] → length new + 1 ≡ k + 1
count_more Ps new P k e q = let n : length (Ps ++ P ∷ []) ≡ length Ps + 1 = length-append Ps (P ∷ []) in omega (arith, e, n, ap length q)

pub kept : (Ps : List Term) (n k : ℕ) → Each Ps → length Ps + 1 ≡ k → k ≡ n + 1 → AreAxioms n Ps
kept Ps n k h e q = record { count = omega (arith, e, q); each = λ j l. h j (omega (arith, l, e, q)) }

pub kept_row : (Ps : List Term) → AreAxioms 72 Ps → (k : ℕ) → (k ≡ 0 → ⊥) → slice_get Ps (k - 1) ≡ axiom_row k
kept_row Ps a zero h = absurd (h refl)
kept_row Ps a (suc j) h = by (below_or_past j)
  where
    below_or_past : (i : ℕ) → (i < 72) ⊎ (72 ≤ i)
    below_or_past i = ⊎_elim (λ t. inl (below i t)) (λ f. inr (past i f)) (cases_Bool (nat_lt i 72))
      where
        below : (m : ℕ) → nat_lt m 72 ≡ true → m < 72
        below m t = grind (arith, nat_tests)

        past : (m : ℕ) → nat_lt m 72 ≡ false → 72 ≤ m
        past m f = grind (arith, nat_tests)

    by : (j < 72) ⊎ (72 ≤ j) → slice_get Ps (suc j - 1) ≡ axiom_row (suc j)
    by (inl l) = let e : suc j - 1 ≡ j = omega arith in let f : j + 1 ≡ suc j = omega arith in ap (slice_get Ps) e ∙ a.each j l ∙ ap axiom_row f
    by (inr l) =
        let e : length Ps ≤ suc j - 1 = omega (arith, l, a.count) in
        get_past Ps (suc j - 1) e ∙ sym (no_row (suc j) (inr (omega (arith, l))))

pub ruleset keeping = (no_axioms, each_more, count_more, kept)
