-- Each part of a pattern is less high than the pattern.
use Rattle.std.specs.Prelude.{◌≤◌, max}
use Rattle.std.proofs.Common.{arith}
use Rattle.ev_syntax.specs.inner.PatternView.{pattern_of, height}
use Rattle.ev_syntax.specs.declared.binders.PatternForm.{PatternForm}
use Rattle.ev_syntax.specs.declared.binders.PatternForm.TheVariants.{Bound, Pair}
use Rattle.ev_syntax.specs.declared.binders.Pattern.TheDeep.{deep-PatternForm}

pub falls : (f : PatternForm) → max (deep-PatternForm f) 0 ≤ height (pattern_of f)
falls (Bound b) = omega arith
falls (Pair p q) = omega arith
