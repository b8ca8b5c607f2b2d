-- The sides of pairs by number.
use Rattle.std.specs.Prelude.{ℕ, List, length}
use Rattle.ev_terms.specs.declared.types.Ty.{Ty}
use Rattle.ev_unify.specs.declared.patterns.Pat.{Pat}
use Rattle.ev_unify.specs.declared.patterns.PatPair.{PatPair}
use Rattle.ev_unify.specs.declared.cells.Couple.{Couple}
use Rattle.ev_unify.specs.Solutions.{Solves}
use Rattle.ev_unify.specs.inner.Numbered.{type_of, Joined, AllBelow}

-- the couples say what the pairs say
pub record HasSides (pairs : List PatPair) (P : List Pat) (couples : List Couple) : Type 0 where
  pub below : AllBelow (length P) couples
  pub joined : (σ : ℕ → Ty) → Solves σ pairs → Joined (type_of σ P) couples
  pub solves : (σ : ℕ → Ty) → Joined (type_of σ P) couples → Solves σ pairs
