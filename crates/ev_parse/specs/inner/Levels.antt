-- The levels of infix signs.
use Rattle.std.specs.Prelude.{ℕ, Option, Some, None}
use Rattle.ev_syntax.specs.Parts.{Operator}
use Rattle.ev_syntax.specs.inner.Lookahead.{operator_of}

abbrev pub level_of : Option Operator → ℕ
level_of None = 0
level_of (Some o) = o.level

-- the level of an infix sign of expressions, or 0
abbrev pub operator_level : ℕ → ℕ
operator_level m = level_of (operator_of m)
