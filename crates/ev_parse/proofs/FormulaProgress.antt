-- A formula that is read takes at least one token.
use Rattle.std.proofs.Common.{◌≡◌, ℕ, ◌≤◌, ◌<◌, ◌-◌, List, drop, length, length-drop, refl, subst, arith}
use Rattle.std.specs.Prelude.{Option, Some, None}
use Rattle.ev_syntax.specs.Tokens.{Token}
use Rattle.ev_syntax.specs.Raw.{Raw}
use Rattle.ev_syntax.specs.Parts.{Part, pred, expr}
use Rattle.ev_syntax.specs.Grammar.{Reads}
use Rattle.ev_syntax.proofs.Sizes.{raw_shrinks}
use Rattle.ev_syntax.proofs.Answers.{pred_sound, expr_sound}
use Rattle.ev_syntax.specs.inner.Finding.{Found, Comes}
use Rattle.ev_syntax.specs.inner.Machines.{Answers}
use Rattle.ev_syntax.specs.inner.Machines as machines
use Rattle.ev_parse.specs.inner.Frames.{IsGoal, goal_at, level_at, stage_at, meaning}
use Rattle.ev_parse.specs.inner.FormulaAnswers.{GoalAnswer, PredicateAnswer, ExpressionAnswer}
use Rattle.ev_parse.specs.declared.states.RawPiece.{RawPiece}
use Rattle.ev_parse.specs.declared.states.Stage.TheVariants.{Pred}
use Rattle.ev_parse.specs.declared.states.State.TheVariants.{Call}
use Rattle.ev_parse.specs.declared.states.Goal.{Goal}
use Rattle.ev_parse.specs.declared.states.Goal.TheVariants.{Level, Stage as AStage}

further_on : (p : Part) (ts : List Token) (at to : ℕ) (r : Raw) → to ≤ length ts → Reads r p (drop at ts) (drop to ts) → at < to
further_on p ts at to r le h =
    let lt = (raw_shrinks r).shrinks p (drop at ts) (drop to ts) h in
    let d : length (drop to ts) ≡ length ts - to = length-drop to ts in let e : length (drop at ts) ≡ length ts - at = length-drop at ts in omega arith

pub as_predicate : (limit : ℕ) (ts : List Token) (at : ℕ) (o : Option (RawPiece × ℕ)) → GoalAnswer (AStage Pred) limit ts at o → PredicateAnswer limit ts at o
as_predicate limit ts at None h = h
as_predicate limit ts at (Some (p, to)) h = (h.0, h.1, h.2, h.3, further_on pred ts at to h.0 h.3 (pred_sound (drop at ts) (drop to ts) h.0 h.2))

pub as_expression : (limit : ℕ) (ts : List Token) (at : ℕ) (o : Option (RawPiece × ℕ)) → GoalAnswer (Level 0) limit ts at o → ExpressionAnswer limit ts at o
as_expression limit ts at None h = h
as_expression limit ts at (Some (p, to)) h = (h.0, h.1, h.2, h.3, further_on (expr 0) ts at to h.0 h.3 (expr_sound 0 (omega arith) (drop at ts) (drop to ts) h.0 h.2))

-- what the machine answers
goal_told : (limit : ℕ) (ts : List Token) (at : ℕ) (whole : ℕ → Option (Found Raw)) (o : Option (RawPiece × ℕ)) → Answers (meaning limit ts) whole o
    → (goal : Goal) → whole ≡ goal_at goal (drop at ts) → GoalAnswer goal limit ts at o
goal_told limit ts at whole None h goal e = subst (λ w. Comes w None) e h
goal_told limit ts at whole (Some (p, to)) h goal e = (h.0, h.1, subst (λ w. Comes w (Some (h.0, drop to ts))) e h.2, h.3)

pub goal_answer : (limit : ℕ) (ts : List Token) (at : ℕ) (goal : Goal) (o : Option (RawPiece × ℕ)) → at ≤ length ts → IsGoal goal → machines.Reads (meaning limit ts) (Call goal at) o
    → GoalAnswer goal limit ts at o
goal_answer limit ts at (Level k) o le low h = goal_told limit ts at (level_at k (drop at ts)) o (h (level_at k (drop at ts)) (λ x c. c, le, low)) (Level k) refl
goal_answer limit ts at (AStage s) o le low h = goal_told limit ts at (stage_at s (drop at ts)) o (h (stage_at s (drop at ts)) (λ x c. c, le)) (AStage s) refl
