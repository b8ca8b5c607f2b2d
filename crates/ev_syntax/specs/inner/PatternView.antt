-- Patterns by their forms, and their height.
use Rattle.std.specs.Prelude.{ℕ, ◌+◌, max}
use Rattle.ev_syntax.specs.Raw.{Pattern, bound, pair}
use Rattle.ev_syntax.specs.declared.binders.PatternForm.{PatternForm}
use Rattle.ev_syntax.specs.declared.binders.PatternForm.TheVariants.{Bound, Pair}

-- the pattern of a form
abbrev pub pattern_of : PatternForm → Pattern
pattern_of (Bound b) = bound b
pattern_of (Pair p q) = pair p q

abbrev pub height : Pattern → ℕ
height (bound b) = 1
height (pair p q) = 1 + max (height p) (height q)
