-- The binds of the unknowns among the first parts.
use Rattle.std.specs.Prelude.{◌≡◌, ℕ, ◌<◌, ◌⊎◌, false, List, slice_index, Some}
use Rattle.ev_unify.specs.declared.patterns.Pat.{Pat, Unknown}
use Rattle.ev_unify.specs.declared.patterns.Bind.{Bind}
use Rattle.ev_unify.specs.inner.Parts.{is_at}
use Rattle.ev_unify.specs.inner.Numbered.{part}
use Rattle.ev_unify.specs.Solutions.{bound_to, BindsOnce}

-- a bind comes from a place of its unknown: the pattern is the one that stands for the class, and is not that unknown
pub record ComesFrom (P : List Pat) (R : List ℕ) (n u : ℕ) (p : Pat) : Type 0 where
  pub place : ℕ
  pub within : place < n
  pub there : part P place ≡ Unknown u
  pub value : p ≡ part P (slice_index R place)
  pub other : is_at u p ≡ false

-- the unknowns at the first n places are bound, or stand for their class themselves
pub record HasBinds (P : List Pat) (R : List ℕ) (S : List Bind) (n : ℕ) : Type 0 where
  pub sound : (u : ℕ) (p : Pat) → bound_to S u ≡ Some p → ComesFrom P R n u p
  pub complete : (i u : ℕ) → i < n → part P i ≡ Unknown u → (bound_to S u ≡ Some (part P (slice_index R i))) ⊎ (part P (slice_index R i) ≡ Unknown u)
  pub once : BindsOnce S
