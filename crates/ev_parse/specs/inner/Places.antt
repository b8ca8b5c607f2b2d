-- The state of a reader that stands at a place.
use Rattle.std.specs.Prelude.{◌≡◌, ℕ, ◌+◌, ◌≤◌, List, length, drop, Option, Some, None}
use Rattle.ev_syntax.specs.Tokens.{Token}
use Rattle.ev_parse.specs.inner.Closings.{IsTable}
use Rattle.ev_syntax.specs.declared.read_pieces.Piece.{Piece}
use Rattle.ev_syntax.specs.declared.read_pieces.Piece.TheVariants.{Whole, Deep}
use Rattle.ev_parse.specs.inner.Taking.{State}

-- from the place on
abbrev pub from_place : List Token → Option ℕ → State
from_place ts None = None
from_place ts (Some at) = Some (drop at ts)

abbrev pub IsWithin : List Token → Option ℕ → Type 0
IsWithin ts None = Unit {0}
IsWithin ts (Some at) = at ≤ length ts

-- a place among tokens, and a table of where parentheses close
pub record IsAt (ts : List Token) (table : List (Option ℕ)) (at : Option ℕ) : Type 0 where
  pub closings : IsTable ts table
  pub full : length table ≡ length ts + 1
  pub within : IsWithin ts at

-- the tree of a piece, if it was built
abbrev pub whole : {A : Type 0} → Piece A → Option A
whole (Whole t n) = Some t
whole Deep = None
