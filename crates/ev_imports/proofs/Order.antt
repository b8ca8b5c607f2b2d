-- Lists of positions, last first: the shorter is earlier, and among those of one length the first in lexicographic order.
use Rattle.std.proofs.Common.{◌≡◌, ◌⊎◌, ℕ, ◌+◌, ◌<◌, ◌≤◌, List, [], ◌∷◌, length, reverse, refl, sym, ap, subst, inl, inr, arith}
use Rattle.std.proofs.lemmas.List.{reverse-reverse}
use mathlib.Core.List.{reverse_aux}
use Rattle.ev_imports.specs.Cycles.{ComesBefore}

abbrev pub Earlier : List ℕ → List ℕ → Type 0
Earlier [] [] = ⊥
Earlier [] (b ∷ s) = Unit {0}
Earlier (a ∷ r) [] = ⊥
Earlier (a ∷ r) (b ∷ s) = Earlier r s ⊎ ((r ≡ s) × (a < b))

abbrev pub NotLater : List ℕ → List ℕ → Type 0
NotLater r s = (r ≡ s) ⊎ Earlier r s

pub earlier_trans : (r s t : List ℕ) → Earlier r s → Earlier s t → Earlier r t
earlier_trans [] [] t p q = absurd p
earlier_trans [] (b ∷ s) [] p q = absurd q
earlier_trans [] (b ∷ s) (c ∷ t) p q = tt
earlier_trans (a ∷ r) [] t p q = absurd p
earlier_trans (a ∷ r) (b ∷ s) [] p q = absurd q
earlier_trans (a ∷ r) (b ∷ s) (c ∷ t) (inl p) (inl q) = inl (earlier_trans r s t p q)
earlier_trans (a ∷ r) (b ∷ s) (c ∷ t) (inl p) (inr q) = inl (subst (Earlier r) q.0 p)
earlier_trans (a ∷ r) (b ∷ s) (c ∷ t) (inr p) (inl q) = inl (subst (λ (x : List ℕ). Earlier x t) (sym p.0) q)
earlier_trans (a ∷ r) (b ∷ s) (c ∷ t) (inr p) (inr q) = inr (cc (p.0, q.0), omega (arith, p.1, q.1))

pub not_later_earlier : (r s t : List ℕ) → NotLater r s → Earlier s t → Earlier r t
not_later_earlier r s t (inl e) q = subst (λ (x : List ℕ). Earlier x t) (sym e) q
not_later_earlier r s t (inr p) q = earlier_trans r s t p q

pub not_later_trans : (r s t : List ℕ) → NotLater r s → NotLater s t → NotLater r t
not_later_trans r s t p (inl e) = subst (NotLater r) e p
not_later_trans r s t p (inr q) = inr (not_later_earlier r s t p q)

pub earlier_cons : (r : List ℕ) (a : ℕ) → Earlier r (a ∷ r)
earlier_cons [] a = tt
earlier_cons (b ∷ r) a = inl (earlier_cons r b)

-- one more import, at the same position
pub not_later_cons : (r s : List ℕ) (a : ℕ) → NotLater r s → NotLater (a ∷ r) (a ∷ s)
not_later_cons r s a (inl e) = inl (ap (λ x. a ∷ x) e)
not_later_cons r s a (inr p) = inr (inl p)

pub earlier_next : (r s : List ℕ) (a : ℕ) → Earlier r (a ∷ s) → Earlier r ((a + 1) ∷ s)
earlier_next [] s a p = tt
earlier_next (b ∷ r) s a (inl p) = inl p
earlier_next (b ∷ r) s a (inr p) = inr (p.0, omega (arith, p.1))

-- what is earlier than an import of s is earlier than each import of what comes after s
pub earlier_past : (r s t : List ℕ) (a b : ℕ) → Earlier r (a ∷ s) → Earlier s t → Earlier r (b ∷ t)
earlier_past [] s t a b p q = tt
earlier_past (c ∷ r) s t a b (inl p) q = inl (earlier_trans r s t p q)
earlier_past (c ∷ r) s t a b (inr p) q = inl (subst (λ (x : List ℕ). Earlier x t) (sym p.0) q)

pub earlier_length : (r s : List ℕ) → Earlier r s → length r ≤ length s
earlier_length [] s p = omega arith
earlier_length (a ∷ r) [] p = absurd p
earlier_length (a ∷ r) (b ∷ s) (inl p) = omega (arith, earlier_length r s p)
earlier_length (a ∷ r) (b ∷ s) (inr p) = omega (arith, ap length p.0)

pub not_later_length : (r s : List ℕ) → NotLater r s → length r ≤ length s
not_later_length r s (inl e) = omega (arith, ap length e)
not_later_length r s (inr p) = earlier_length r s p

pub earlier_itself : (r : List ℕ) → Earlier r r → ⊥
earlier_itself [] p = p
earlier_itself (a ∷ r) (inl p) = earlier_itself r p
earlier_itself (a ∷ r) (inr p) = omega (arith, p.1)

earlier_onto : (is js r s : List ℕ) → length is ≡ length js → Earlier r s → Earlier (reverse_aux is r) (reverse_aux js s)
earlier_onto [] [] r s e p = p
earlier_onto [] (j ∷ js) r s e p = absurd (omega arith)
earlier_onto (i ∷ is) [] r s e p = absurd (omega arith)
earlier_onto (i ∷ is) (j ∷ js) r s e p = earlier_onto is js (i ∷ r) (j ∷ s) (omega arith) (inl p)

before_onto : (is js r : List ℕ) → length is ≡ length js → ComesBefore is js → Earlier (reverse_aux is r) (reverse_aux js r)
before_onto [] js r e p = absurd p
before_onto (i ∷ is) [] r e p = absurd p
before_onto (i ∷ is) (j ∷ js) r e (inl p) = earlier_onto is js (i ∷ r) (j ∷ r) (omega arith) (inr (refl, p))
before_onto (i ∷ is) (j ∷ js) r e (inr p) =
    subst (λ (k : ℕ). Earlier (reverse_aux is (i ∷ r)) (reverse_aux js (k ∷ r))) p.0 (before_onto is js (i ∷ r) (omega arith) p.1)

-- the order of positions, first first, is this one of those last first
pub earlier-reverse : (is js : List ℕ) → length is ≡ length js → ComesBefore is js → Earlier (reverse is) (reverse js)
earlier-reverse is js e p = before_onto is js [] e p

pub not_before : (is r : List ℕ) → length is ≡ length (reverse r) → NotLater r (reverse is) → ComesBefore is (reverse r) → ⊥
not_before is r e p q =
    let before : Earlier (reverse is) r = subst (Earlier (reverse is)) (reverse-reverse r) (earlier-reverse is (reverse r) e q) in
    earlier_itself r (not_later_earlier r (reverse is) r p before)
