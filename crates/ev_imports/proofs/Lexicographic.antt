-- Lists of positions in lexicographic order, and in the order in which walks along them end, depth first.
use Rattle.std.proofs.Common.{◌≡◌, ◌⊎◌, ℕ, ◌<◌, List, [], ◌∷◌, ◌++◌, refl, ap, ◌∙◌, subst, inl, inr, arith}
use Rattle.std.proofs.lemmas.List.{append-nil}
use Rattle.std.proofs.lemmas.Bool.{cases_lt}
use Rattle.ev_imports.specs.Cycles.{ComesBefore}
use Rattle.ev_imports.specs.inner.Listing.{EndsBefore}

pub before_trans : (p q r : List ℕ) → ComesBefore p q → ComesBefore q r → ComesBefore p r
before_trans [] [] r a b = absurd a
before_trans [] (j ∷ q) r a b = absurd a
before_trans (i ∷ p) [] r a b = absurd a
before_trans (i ∷ p) (j ∷ q) [] a b = absurd b
before_trans (i ∷ p) (j ∷ q) (k ∷ r) (inl a) (inl b) = inl (omega arith)
before_trans (i ∷ p) (j ∷ q) (k ∷ r) (inl a) (inr b) = inl (omega (arith, b.0))
before_trans (i ∷ p) (j ∷ q) (k ∷ r) (inr a) (inl b) = inl (omega (arith, a.0))
before_trans (i ∷ p) (j ∷ q) (k ∷ r) (inr a) (inr b) = inr (a.0 ∙ b.0, before_trans p q r a.1 b.1)

-- what comes before still does so when both go on
pub before_on : (p q s r : List ℕ) → ComesBefore p q → ComesBefore (p ++ s) (q ++ r)
before_on [] [] s r a = absurd a
before_on [] (j ∷ q) s r a = absurd a
before_on (i ∷ p) [] s r a = absurd a
before_on (i ∷ p) (j ∷ q) s r (inl a) = inl a
before_on (i ∷ p) (j ∷ q) s r (inr a) = inr (a.0, before_on p q s r a.1)

pub before_right : (p q r : List ℕ) → ComesBefore p q → ComesBefore p (q ++ r)
before_right p q r a = subst (λ (x : List ℕ). ComesBefore x (q ++ r)) (append-nil p) (before_on p q [] r a)

-- a smaller position after the same ones
pub before_at : (p s r : List ℕ) (i j : ℕ) → i < j → ComesBefore (p ++ i ∷ s) (p ++ j ∷ r)
before_at [] s r i j h = inl h
before_at (k ∷ p) s r i j h = inr (refl, before_at p s r i j h)

pub record GoesOn (p : List ℕ) (n : ℕ) (q : List ℕ) : Type 0 where
  pub position : ℕ
  pub later : List ℕ
  pub less : position < n
  pub is : q ≡ p ++ position ∷ later

-- what comes before p and n comes before p, or goes on from p at a smaller position
pub before_cases : (p : List ℕ) (n : ℕ) (q : List ℕ) → ComesBefore q (p ++ n ∷ []) → ComesBefore q p ⊎ GoesOn p n q
before_cases [] n [] a = absurd a
before_cases [] n (i ∷ q) (inl a) = inr record { position = i; later = q; less = a; is = refl }
before_cases [] n (i ∷ []) (inr a) = absurd a.1
before_cases [] n (i ∷ (j ∷ q)) (inr a) = absurd a.1
before_cases (k ∷ p) n [] a = absurd a
before_cases (k ∷ p) n (i ∷ q) (inl a) = inl (inl a)
before_cases (k ∷ p) n (i ∷ q) (inr a) =
    elim (before_cases p n q a.1) [
      | inl b ↦ inl (inr (a.0, b))
      | inr g ↦ inr record { position = g.position; later = g.later; less = g.less; is = ap (λ (x : List ℕ). i ∷ x) g.is ∙ ap (λ (x : ℕ). x ∷ (p ++ g.position ∷ g.later)) a.0 }
    ]

pub ends_from_before : (p q : List ℕ) → ComesBefore p q → EndsBefore p q
ends_from_before [] [] a = absurd a
ends_from_before [] (j ∷ q) a = absurd a
ends_from_before (i ∷ p) [] a = absurd a
ends_from_before (i ∷ p) (j ∷ q) (inl a) = inl a
ends_from_before (i ∷ p) (j ∷ q) (inr a) = inr (a.0, ends_from_before p q a.1)

pub ends_on : (p s : List ℕ) (i : ℕ) → EndsBefore (p ++ i ∷ s) p
ends_on [] s i = tt
ends_on (k ∷ p) s i = inr (refl, ends_on p s i)

pub ends_cases : (p q : List ℕ) → EndsBefore p q → ComesBefore p q ⊎ ((i : ℕ) × (s : List ℕ) × (p ≡ q ++ i ∷ s))
ends_cases [] q a = absurd a
ends_cases (i ∷ p) [] a = inr (i, p, refl)
ends_cases (i ∷ p) (j ∷ q) (inl a) = inl (inl a)
ends_cases (i ∷ p) (j ∷ q) (inr a) =
    elim (ends_cases p q a.1) [
      | inl b ↦ inl (inr (a.0, b))
      | inr b ↦ inr (b.0, b.1, ap (λ (x : List ℕ). i ∷ x) b.2 ∙ ap (λ (x : ℕ). x ∷ (q ++ b.0 ∷ b.1)) a.0)
    ]

pub ends_itself : (p : List ℕ) → EndsBefore p p → ⊥
ends_itself [] a = a
ends_itself (i ∷ p) (inl a) = omega (arith, a)
ends_itself (i ∷ p) (inr a) = ends_itself p a.1

-- two lists of positions part somewhere, or the one goes on where the other ends, or they are one
pub data Parting : List ℕ → List ℕ → Type 0 where
  first : {p q : List ℕ} → ComesBefore p q → Parting p q
  second : {p q : List ℕ} → ComesBefore q p → Parting p q
  same : {p q : List ℕ} → p ≡ q → Parting p q
  longer : {p q : List ℕ} → (i : ℕ) → (s : List ℕ) → p ≡ q ++ i ∷ s → Parting p q
  shorter : {p q : List ℕ} → (i : ℕ) → (s : List ℕ) → q ≡ p ++ i ∷ s → Parting p q

parting_cons : (k : ℕ) (p q : List ℕ) → Parting p q → Parting (k ∷ p) (k ∷ q)
parting_cons k p q (first a) = first (inr (refl, a))
parting_cons k p q (second a) = second (inr (refl, a))
parting_cons k p q (same e) = same (ap (λ (x : List ℕ). k ∷ x) e)
parting_cons k p q (longer i s e) = longer i s (ap (λ (x : List ℕ). k ∷ x) e)
parting_cons k p q (shorter i s e) = shorter i s (ap (λ (x : List ℕ). k ∷ x) e)

pub parting : (p q : List ℕ) → Parting p q
parting [] [] = same refl
parting [] (j ∷ q) = shorter j q refl
parting (i ∷ p) [] = longer i p refl
parting (i ∷ p) (j ∷ q) =
    elim (cases_lt i j) [
      | inl l ↦ first (inl l)
      | inr l ↦ elim (cases_lt j i) [
        | inl m ↦ second (inl m)
        | inr m ↦
            let e : i ≡ j = omega arith in
            subst (λ (x : ℕ). Parting (i ∷ p) (x ∷ q)) e (parting_cons i p q (parting p q))
      ]
    ]
