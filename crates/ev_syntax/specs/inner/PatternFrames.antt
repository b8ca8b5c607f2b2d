-- The work of the reader of patterns: what its frames and states stand for.
use Rattle.std.specs.Prelude.{◌≡◌, ℕ, ◌≤◌, List, [], ◌∷◌, ◌++◌, Option, Some, drop, length}
use Rattle.ev_syntax.specs.Marks.{close_paren}
use Rattle.ev_syntax.specs.Tokens.{Token}
use Rattle.ev_syntax.specs.Raw.{Pattern, pair}
use Rattle.ev_syntax.specs.inner.Finding.{Found}
use Rattle.ev_syntax.specs.inner.TypeParser.{expect}
use Rattle.ev_syntax.specs.inner.PatternParser.{Want, an_atom, a_pattern, pattern_atom, more_pairs, parse_pattern}
use Rattle.ev_syntax.specs.inner.Resuming.{Behind, Reach, FromCall}
use Rattle.ev_syntax.specs.inner.BinderAnswers.{IsPattern}
use Rattle.ev_syntax.specs.inner.Machines.{Meaning, weight_at}
use Rattle.ev_syntax.specs.declared.pattern_states.PatternPiece.{PatternPiece}
use Rattle.ev_syntax.specs.declared.pattern_states.PatternGoal.{PatternGoal}
use Rattle.ev_syntax.specs.declared.pattern_states.PatternGoal.TheVariants.{Atom as AnAtom, Whole as APattern}
use Rattle.ev_syntax.specs.declared.pattern_states.PatternFrame.{PatternFrame}
use Rattle.ev_syntax.specs.declared.pattern_states.PatternFrame.TheVariants.{Paren, Pair}
use Rattle.ev_syntax.specs.declared.pattern_states.PatternState.{PatternState}
use Rattle.ev_syntax.specs.declared.pattern_states.PatternState.TheVariants.{Call, Atom}

abbrev pub want : PatternGoal → Want
want AnAtom = an_atom
want APattern = a_pattern

abbrev pub pattern_at : PatternGoal → List Token → ℕ → Option (Found Pattern)
pattern_at goal ts g = parse_pattern g (want goal) ts

abbrev pub atom_at : List Token → ℕ → Option (Found Pattern)
atom_at ts g = pattern_atom g (parse_pattern g a_pattern) ts

-- behind an atom further ones, if the goal is a whole pattern
abbrev pub pairs : Behind Pattern
pairs n g x ts = more_pairs n (parse_pattern g an_atom) x ts

abbrev pub pattern_tail : PatternGoal → List (Behind Pattern)
pattern_tail AnAtom = []
pattern_tail APattern = pairs ∷ []

abbrev pub closed : Behind Pattern
closed n g x ts = expect close_paren ts (λ rest. Some (x, rest))

abbrev pub pair_behind : Pattern → Behind Pattern
pair_behind x n g y ts = more_pairs n (parse_pattern g an_atom) (pair x y) ts

module _ (limit : ℕ) where
  abbrev pub IsFrame : PatternFrame → List (Behind Pattern) → Type 0
  IsFrame (Paren goal) bs = bs ≡ pattern_tail goal ++ closed ∷ []
  IsFrame (Pair p) bs = (x : Pattern) × IsPattern limit p x × (bs ≡ pair_behind x ∷ [])

  abbrev pub StateHolds : List Token → (ℕ → Option (Found Pattern)) → List (Behind Pattern) → PatternState → Type 0
  StateHolds ts whole bs (Call goal at) = FromCall whole bs (pattern_at goal (drop at ts)) × (at ≤ length ts)
  StateHolds ts whole bs (Atom goal p at) =
      (x : Pattern) × IsPattern limit p x × Reach whole (bs ++ pattern_tail goal) (Some (x, drop at ts)) × (at ≤ length ts)

-- what falls with each step
abbrev pub goal_weight : PatternGoal → ℕ
goal_weight AnAtom = 2
goal_weight APattern = 3

abbrev pub state_weight : List Token → PatternState → ℕ
state_weight ts (Call goal at) = weight_at ts at 5
state_weight ts (Atom goal p at) = weight_at ts at (goal_weight goal)

abbrev pub meaning : ℕ → List Token → Meaning Pattern PatternFrame PatternState PatternPiece
meaning limit ts =
    record { tokens = ts; frame = IsFrame limit; piece = IsPattern limit; state = StateHolds limit ts; state_weight = state_weight ts }
