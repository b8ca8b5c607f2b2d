-- When `Clash` is answered.
use Rattle.std.specs.Prelude.{◌≡◌, ℕ, List, length}
use Rattle.ev_unify.specs.declared.patterns.Pat.{Pat}
use Rattle.ev_unify.specs.declared.patterns.UnifyFault.{UnifyFault}
use Rattle.ev_unify.specs.declared.patterns.UnifyFault.TheVariants.{Clash, NoMemory}
use Rattle.ev_unify.specs.inner.Parts.{head, children_of}
use Rattle.ev_unify.specs.inner.Numbered.{part}

-- two parts have one head and equally many children
pub record SameForm (P : List Pat) (i j : ℕ) : Type 0 where
  pub heads : head (part P i) ≡ head (part P j)
  pub counts : length (children_of (part P i)) ≡ length (children_of (part P j))

-- the fact, where the fault is no want of memory
abbrev pub OnClash : Type 0 → UnifyFault → Type 0
OnClash P Clash = P
OnClash P NoMemory = Unit {0}
