-- The longest runs of tokens from a place on that are formulas.
use Rattle.std.specs.Prelude.{ℕ, ◌-◌, ◌≤◌, ◌<◌, List, length, Option, Some, None, Result, Ok, Err}
use Rattle.ev_syntax.specs.Tokens.{Token}
use Rattle.ev_syntax.specs.Raw.{Raw, nesting}
use Rattle.ev_syntax.specs.inner.Pieces.{IsPiece}
use Rattle.ev_syntax.specs.declared.read_pieces.Piece.{Piece}
use Rattle.ev_syntax.specs.declared.sorts.Sort.{Sort}
use Rattle.ev_syntax.specs.declared.parse_faults.ParseFault.{ParseFault}
use Rattle.ev_syntax.specs.declared.parse_faults.ParseFault.TheVariants.{Syntax, TooDeep, NoMemory}
use Rattle.ev_syntax.specs.Parses.{IsRun, IsLongestRun}

-- no run of tokens from the place on is a formula of the sort
abbrev pub HasNoRun : List Token → ℕ → Sort → Type 0
HasNoRun ts from sort = (n : ℕ) (raw : Raw) → IsRun ts from sort n raw → ⊥

-- the longest run from a place on, and the place behind it
abbrev pub EndsLongestRun : List Token → ℕ → Sort → Raw → ℕ → Type 0
EndsLongestRun ts from sort raw to = IsLongestRun ts from sort (to - from) raw × (from ≤ to) × (to ≤ length ts)

abbrev pub FrontAnswer : Sort → ℕ → List Token → ℕ → Option (Piece Raw × ℕ) → Type 0
FrontAnswer sort limit ts from None = HasNoRun ts from sort
FrontAnswer sort limit ts from (Some (p, to)) = (raw : Raw) × IsPiece nesting limit p raw × EndsLongestRun ts from sort raw to

-- the same as a result
abbrev pub IsFrontResult : Sort → ℕ → List Token → ℕ → Result (Raw × ℕ) ParseFault → Type 0
IsFrontResult sort limit ts from (Ok (raw, to)) = EndsLongestRun ts from sort raw to × (nesting raw ≤ limit)
IsFrontResult sort limit ts from (Err Syntax) = HasNoRun ts from sort
IsFrontResult sort limit ts from (Err TooDeep) = (n : ℕ) × (raw : Raw) × IsLongestRun ts from sort n raw × (limit < nesting raw)
IsFrontResult sort limit ts from (Err NoMemory) = Unit {0}
