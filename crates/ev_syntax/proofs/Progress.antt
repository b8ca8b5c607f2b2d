-- What is read takes at least one token.
use Rattle.std.proofs.Common.{◌≡◌, ℕ, ◌≤◌, ◌<◌, ◌-◌, true, List, drop, length, length-drop, subst, arith}
use Rattle.std.specs.Prelude.{Option, Some, None}
use Rattle.ev_syntax.specs.Tokens.{Token}
use Rattle.ev_syntax.specs.Raw.{RawType, Pattern}
use Rattle.ev_syntax.specs.inner.PatternParser.{parse_pattern, a_pattern}
use Rattle.ev_syntax.proofs.WholeSound.{Holds, PatternIs, pattern_is}
use Rattle.ev_syntax.specs.inner.Finding.{Comes}
use Rattle.ev_syntax.specs.inner.TypeParser.{parse_type, a_type}
use Rattle.ev_syntax.specs.inner.BinderAnswers.{PatternAnswer}
use Rattle.ev_syntax.specs.inner.Machines.{Reads}
use Rattle.ev_syntax.specs.inner.TypeFrames.{TypeAnswer, type_at}
use Rattle.ev_syntax.specs.inner.TypeFrames as types
use Rattle.ev_syntax.specs.inner.PatternFrames.{pattern_at}
use Rattle.ev_syntax.specs.inner.PatternFrames as patterns
use Rattle.ev_syntax.specs.declared.read_pieces.Piece.{Piece}
use Rattle.ev_syntax.specs.declared.pattern_states.PatternPiece.{PatternPiece}
use Rattle.ev_syntax.specs.declared.type_states.TypeGoal.TheVariants.{Whole as AType}
use Rattle.ev_syntax.specs.declared.type_states.TypeState.TheVariants.{Call as ReadType}
use Rattle.ev_syntax.specs.declared.pattern_states.PatternGoal.TheVariants.{Whole as APattern}
use Rattle.ev_syntax.specs.declared.pattern_states.PatternState.TheVariants.{Call as ReadPattern}
use Rattle.ev_syntax.proofs.Sizes.{type_shrinks, pattern_shrinks}
use Rattle.ev_syntax.proofs.Answers.{type_sound}

further_on : (ts : List Token) (at to : ℕ) → to ≤ length ts → length (drop to ts) < length (drop at ts) → at < to
further_on ts at to le lt = let d : length (drop to ts) ≡ length ts - to = length-drop to ts in let e : length (drop at ts) ≡ length ts - at = length-drop at ts in omega arith

pub type_progress : (ts : List Token) (at to : ℕ) (r : RawType) → to ≤ length ts → Comes (λ g. parse_type g a_type (drop at ts)) (Some (r, drop to ts)) → at < to
type_progress ts at to r le c = further_on ts at to le ((type_shrinks r).shrinks true (drop at ts) (drop to ts) (type_sound (drop at ts) (drop to ts) r c))

pub pattern_progress : (ts : List Token) (at to : ℕ) (x : Pattern) → to ≤ length ts → Comes (λ g. parse_pattern g a_pattern (drop at ts)) (Some (x, drop to ts)) → at < to
pattern_progress ts at to x le c = further_on ts at to le ((pattern_shrinks x).shrinks true (drop at ts) (drop to ts)
    (subst (λ o. Holds (PatternIs true (drop at ts)) o) (c.1 c.0 (omega arith)) (pattern_is c.0 (drop at ts))))

-- what the machines answer
pub type_answer : (limit : ℕ) (ts : List Token) (at : ℕ) (o : Option (Piece RawType × ℕ)) → at ≤ length ts → Reads (types.meaning limit ts) (ReadType AType at) o → TypeAnswer limit ts at o
type_answer limit ts at None le h = h (type_at AType (drop at ts)) (λ x c. c, le)
type_answer limit ts at (Some (p, to)) le h = let a = h (type_at AType (drop at ts)) (λ x c. c, le) in
    (a.0, a.1, a.2, a.3, type_progress ts at to a.0 a.3 a.2)

pub pattern_answer : (limit : ℕ) (ts : List Token) (at : ℕ) (o : Option (PatternPiece × ℕ)) → at ≤ length ts → Reads (patterns.meaning limit ts) (ReadPattern APattern at) o
    → PatternAnswer limit ts at o
pattern_answer limit ts at None le h = h (pattern_at APattern (drop at ts)) (λ x c. c, le)
pattern_answer limit ts at (Some (p, to)) le h = let a = h (pattern_at APattern (drop at ts)) (λ x c. c, le) in
    (a.0, a.1, a.2, a.3, pattern_progress ts at to a.0 a.3 a.2)
