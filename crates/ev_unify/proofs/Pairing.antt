-- Two parts of one form, with their children in pairs.
use Rattle.std.specs.Prelude.{◌≡◌, ℕ, zero, suc, ◌+◌, ◌<◌, ◌≤◌, List, [], ◌∷◌, ◌++◌, length, refl}
use Rattle.std.proofs.Common.{ap, sym, ◌∙◌, arith, inl, inr, append_assoc, append-nil, add-one, length-append}
use Rattle.ev_terms.specs.declared.types.Ty.{Ty}
use Rattle.ev_unify.specs.declared.cells.Couple.{Couple}
use Rattle.ev_unify.specs.inner.Numbered.{Joined, AllBelow}
use Rattle.ev_unify.specs.inner.Links.{paired}
use Rattle.ev_unify.proofs.Siding.{joined_append, joined_front, joined_back, below_append}
use Rattle.ev_unify.proofs.Spread.{split_last}

pub paired_start : (work : List Couple) (a b : ℕ) → work ≡ work ++ paired a b 0
paired_start work a b = sym (append-nil work)

pub paired_more : (work work' work'' : List Couple) (a b n : ℕ) → work' ≡ work ++ paired a b n → work'' ≡ work' ++ record { left = a + n; right = b + n } ∷ [] → work'' ≡ work ++ paired a b (n + 1)
paired_more work work' work'' a b n e e' =
    e' ∙ ap (λ x. x ++ record { left = a + n; right = b + n } ∷ []) e ∙ append_assoc work (paired a b n) (record { left = a + n; right = b + n } ∷ []) ∙ ap (λ k. work ++ paired a b k) (sym (add-one n))

pub ruleset walk = (paired_start, paired_more)

pub paired_joined : (f : ℕ → Ty) (a b n : ℕ) → ((k : ℕ) → k < n → f (a + k) ≡ f (b + k)) → Joined f (paired a b n)
paired_joined f a b zero h = tt
paired_joined f a b (suc n) h = joined_append f (paired a b n) (record { left = a + n; right = b + n } ∷ []) (paired_joined f a b n (λ k l. h k (omega (arith, l)))) (h n (omega arith), tt)

pub joined_paired : (f : ℕ → Ty) (a b n : ℕ) → Joined f (paired a b n) → (k : ℕ) → k < n → f (a + k) ≡ f (b + k)
joined_paired f a b zero j k l = absurd (omega (arith, l))
joined_paired f a b (suc n) j k l =
    elim (split_last k n (omega (arith, l))) as (λ _. f (a + k) ≡ f (b + k)) [
      | inl lt ↦ joined_paired f a b n (joined_front f (paired a b n) (record { left = a + n; right = b + n } ∷ []) j) k lt
      | inr e ↦ ap (λ x. f (a + x)) e ∙ (joined_back f (paired a b n) (record { left = a + n; right = b + n } ∷ []) j).0 ∙ ap (λ x. f (b + x)) (sym e)
    ]

pub paired_below : (m a b n : ℕ) → a + n ≤ m → b + n ≤ m → AllBelow m (paired a b n)
paired_below m a b zero h k = tt
paired_below m a b (suc n) h k =
    below_append m (paired a b n) (record { left = a + n; right = b + n } ∷ []) (paired_below m a b n (omega (arith, h)) (omega (arith, k))) ((omega (arith, h), omega (arith, k)), tt)

pub length-paired : (a b n : ℕ) → length (paired a b n) ≡ n
length-paired a b zero = refl
length-paired a b (suc n) = omega (arith, length-append (paired a b n) (record { left = a + n; right = b + n } ∷ []), length-paired a b n)
