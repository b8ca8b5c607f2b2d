-- What the reader of formulas answers of the tokens from a place on.
use Rattle.std.specs.Prelude.{ℕ, ◌≤◌, ◌<◌, List, Option, Some, None, drop, length}
use Rattle.ev_syntax.specs.Tokens.{Token}
use Rattle.ev_syntax.specs.Raw.{Raw}
use Rattle.ev_syntax.specs.inner.Finding.{Comes}
use Rattle.ev_syntax.specs.inner.FormulaParser.{Want, level, a_pred, parse}
use Rattle.ev_parse.specs.inner.Forms.{IsRaw}
use Rattle.ev_parse.specs.inner.Frames.{goal_at}
use Rattle.ev_parse.specs.declared.states.Goal.{Goal}
use Rattle.ev_parse.specs.declared.states.RawPiece.{RawPiece}

-- what the parser by levels comes to: nothing, or a formula and the place behind it
abbrev pub FormulaAnswer : Want → ℕ → List Token → ℕ → Option (RawPiece × ℕ) → Type 0
FormulaAnswer want limit ts at None = Comes (λ g. parse g want (drop at ts)) None
FormulaAnswer want limit ts at (Some (p, to)) =
    (r : Raw) × IsRaw limit p r × Comes (λ g. parse g want (drop at ts)) (Some (r, drop to ts)) × (to ≤ length ts) × (at < to)

-- the same for a goal of the machine
abbrev pub GoalAnswer : Goal → ℕ → List Token → ℕ → Option (RawPiece × ℕ) → Type 0
GoalAnswer goal limit ts at None = Comes (goal_at goal (drop at ts)) None
GoalAnswer goal limit ts at (Some (p, to)) = (r : Raw) × IsRaw limit p r × Comes (goal_at goal (drop at ts)) (Some (r, drop to ts)) × (to ≤ length ts)

abbrev pub PredicateAnswer : ℕ → List Token → ℕ → Option (RawPiece × ℕ) → Type 0
PredicateAnswer limit ts at answer = FormulaAnswer a_pred limit ts at answer

abbrev pub ExpressionAnswer : ℕ → List Token → ℕ → Option (RawPiece × ℕ) → Type 0
ExpressionAnswer limit ts at answer = FormulaAnswer (level 0) limit ts at answer
