-- Formulas that stand where none of their sort goes on: before a comma, a keyword, another closing sign, or at the end of the tokens.
use Rattle.std.specs.Prelude.{◌≡◌, ℕ, ◌-◌, ◌≤◌, ◌<◌, Bool, true, not, ◌||◌, List, Option, Some, None, drop, length}
use Rattle.ev_syntax.specs.Tokens.{Token}
use Rattle.ev_syntax.specs.Raw.{Raw, nesting}
use Rattle.ev_syntax.specs.inner.Pieces.{IsPiece}
use Rattle.ev_syntax.specs.declared.read_pieces.Piece.{Piece}
use Rattle.ev_syntax.specs.declared.sorts.Sort.{Sort}
use Rattle.ev_syntax.specs.Parses.{IsRun}
use Rattle.ev_syntax.specs.inner.Lookahead.{goes_on}
use Rattle.ev_syntax.specs.inner.FormulaParser.{is_relation, connects}

-- no formula and no type goes on with what stands first: it is no infix or postfix sign, no sign of a relation and no connective
abbrev pub ends : List Token → Bool
ends ts = not (goes_on ts || (is_relation ts || connects ts))

-- of the tokens from a place on: the formula of the sort that stands there and ends, and the place behind it
abbrev pub ItemAnswer : Sort → ℕ → List Token → ℕ → Option (Piece Raw × ℕ) → Type 0
ItemAnswer sort limit ts from None = (n : ℕ) (raw : Raw) → IsRun ts from sort n raw → ends (drop n (drop from ts)) ≡ true → ⊥
ItemAnswer sort limit ts from (Some (p, to)) =
    (raw : Raw) × IsPiece nesting limit p raw × IsRun ts from sort (to - from) raw × (ends (drop to ts) ≡ true) × (from < to) × (to ≤ length ts)
