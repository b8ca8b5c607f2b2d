-- Formulas that are all of some tokens.
use Rattle.std.specs.Prelude.{ℕ, ◌≤◌, ◌<◌, List, Option, Some, None, Result, Ok, Err}
use Rattle.ev_syntax.specs.Tokens.{Token}
use Rattle.ev_syntax.specs.Raw.{Raw, nesting}
use Rattle.ev_syntax.specs.inner.Pieces.{IsPiece}
use Rattle.ev_syntax.specs.declared.read_pieces.Piece.{Piece}
use Rattle.ev_syntax.specs.declared.sorts.Sort.{Sort}
use Rattle.ev_syntax.specs.declared.parse_faults.ParseFault.{ParseFault}
use Rattle.ev_syntax.specs.declared.parse_faults.ParseFault.TheVariants.{Syntax, TooDeep, NoMemory}
use Rattle.ev_syntax.specs.Parses.{Parses}

-- the formula of the sort that all the tokens are
abbrev pub WholeAnswer : Sort → ℕ → List Token → Option (Piece Raw) → Type 0
WholeAnswer sort limit ts None = (raw : Raw) → Parses ts sort raw → ⊥
WholeAnswer sort limit ts (Some p) = (raw : Raw) × IsPiece nesting limit p raw × Parses ts sort raw

-- the same as a result
abbrev pub IsFormulaResult : Sort → ℕ → List Token → Result Raw ParseFault → Type 0
IsFormulaResult sort limit ts (Ok raw) = Parses ts sort raw × (nesting raw ≤ limit)
IsFormulaResult sort limit ts (Err Syntax) = (raw : Raw) → Parses ts sort raw → ⊥
IsFormulaResult sort limit ts (Err TooDeep) = (raw : Raw) × Parses ts sort raw × (limit < nesting raw)
IsFormulaResult sort limit ts (Err NoMemory) = Unit {0}
