-- The parts of some patterns, with all that is known of their numbers.
use Rattle.std.specs.Prelude.{◌≡◌, ℕ, ◌≤◌, List, ◌++◌, length, Option}
use Rattle.ev_unify.specs.declared.patterns.Pat.{Pat}
use Rattle.ev_unify.specs.inner.Numbered.{HasChildren, IsFlat, HasPlaces, HasHomes}

-- the patterns come first
pub record IsCells (pats P : List Pat) (F H : List ℕ) : Type 0 where
  pub more : List Pat
  pub begins : P ≡ pats ++ more
  pub flat : IsFlat P F
  pub homes : HasHomes P H

-- the first m parts are done
pub record AreNumbered (pats P : List Pat) (F H : List ℕ) (place : ℕ → Option ℕ) (m : ℕ) : Type 0 where
  pub more : List Pat
  pub begins : P ≡ pats ++ more
  pub children : HasChildren P F m
  pub places : HasPlaces place P H
  pub count : length H ≡ m
  pub within : m ≤ length P
