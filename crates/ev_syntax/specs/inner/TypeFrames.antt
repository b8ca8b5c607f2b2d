-- The work of the reader of types: what its frames and states stand for.
use Rattle.std.specs.Prelude.{◌≡◌, ℕ, ◌≤◌, ◌<◌, List, [], ◌∷◌, ◌++◌, Option, Some, None, drop, length}
use Rattle.ev_syntax.specs.Marks.{close_paren}
use Rattle.ev_syntax.specs.Tokens.{Token}
use Rattle.ev_syntax.specs.Raw.{RawType, RawTypes, named_type, pow_type, prod_type, one_type, type_nesting, types_nesting}
use Rattle.ev_syntax.specs.inner.TypeView.{raw_types}
use Rattle.ev_syntax.specs.inner.Finding.{Found, on_found, Comes}
use Rattle.ev_syntax.specs.inner.TypeParser.{Want, an_atom, a_type, expect, type_atom, more_factors, more_types, parse_type}
use Rattle.ev_syntax.specs.inner.Resuming.{Behind, Reach, FromCall}
use Rattle.ev_syntax.specs.inner.Pieces.{IsPiece}
use Rattle.ev_syntax.specs.inner.Machines.{Meaning, weight_at}
use Rattle.ev_syntax.specs.declared.read_pieces.Piece.{Piece}
use Rattle.ev_syntax.specs.declared.type_states.TypeGoal.{TypeGoal}
use Rattle.ev_syntax.specs.declared.type_states.TypeGoal.TheVariants.{Atom as AnAtom, Whole as AType}
use Rattle.ev_syntax.specs.declared.type_states.TypeFrame.{TypeFrame}
use Rattle.ev_syntax.specs.declared.type_states.TypeFrame.TheVariants.{Paren, Pow, Factor, Types}
use Rattle.ev_syntax.specs.declared.type_states.TypeState.{TypeState}
use Rattle.ev_syntax.specs.declared.type_states.TypeState.TheVariants.{Call, Atom}

abbrev pub want : TypeGoal → Want
want AnAtom = an_atom
want AType = a_type

abbrev pub type_at : TypeGoal → List Token → ℕ → Option (Found RawType)
type_at goal ts g = parse_type g (want goal) ts

abbrev pub atom_at : List Token → ℕ → Option (Found RawType)
atom_at ts g = type_atom (parse_type g a_type) (more_types g (parse_type g a_type)) ts

-- behind an atom further factors, if the goal is a whole type
abbrev pub factors : Behind RawType
factors n g a ts = more_factors n (parse_type g an_atom) a ts

abbrev pub type_tail : TypeGoal → List (Behind RawType)
type_tail AnAtom = []
type_tail AType = factors ∷ []

abbrev pub closed_type : Behind RawType
closed_type n g a ts = expect close_paren ts (λ rest. Some (a, rest))

abbrev pub closed_pow : Behind RawType
closed_pow n g a ts = expect close_paren ts (λ rest. Some (pow_type a, rest))

abbrev pub factor_behind : RawType → Behind RawType
factor_behind a n g b ts = more_factors n (parse_type g an_atom) (prod_type a b) ts

-- types in front of others
abbrev pub onto : List RawType → RawTypes → RawTypes
onto [] types = types
onto (a ∷ done) types = one_type a (onto done types)

abbrev pub types_behind : List ℕ → List RawType → Behind RawType
types_behind name done n g a ts =
    on_found (more_types n (parse_type g a_type) ts) (λ types us. expect close_paren us (λ rest. Some (named_type name (onto done (one_type a types)), rest)))

-- the nesting of a list
abbrev pub list_nesting : List RawType → ℕ
list_nesting types = types_nesting (raw_types types)

module _ (limit : ℕ) where
  abbrev pub IsFrame : TypeFrame → List (Behind RawType) → Type 0
  IsFrame (Paren goal) bs = bs ≡ type_tail goal ++ closed_type ∷ []
  IsFrame (Pow goal) bs = bs ≡ type_tail goal ++ closed_pow ∷ []
  IsFrame (Factor a) bs = (r : RawType) × IsPiece type_nesting limit a r × (bs ≡ factor_behind r ∷ [])
  IsFrame (Types name done goal) bs = (rs : List RawType) × IsPiece list_nesting limit done rs × (bs ≡ type_tail goal ++ types_behind name rs ∷ [])

  abbrev pub StateHolds : List Token → (ℕ → Option (Found RawType)) → List (Behind RawType) → TypeState → Type 0
  StateHolds ts whole bs (Call goal at) = FromCall whole bs (type_at goal (drop at ts)) × (at ≤ length ts)
  StateHolds ts whole bs (Atom goal p at) =
      (r : RawType) × IsPiece type_nesting limit p r × Reach whole (bs ++ type_tail goal) (Some (r, drop at ts)) × (at ≤ length ts)

-- what falls with each step
abbrev pub goal_weight : TypeGoal → ℕ
goal_weight AnAtom = 2
goal_weight AType = 3

abbrev pub state_weight : List Token → TypeState → ℕ
state_weight ts (Call goal at) = weight_at ts at 5
state_weight ts (Atom goal p at) = weight_at ts at (goal_weight goal)

abbrev pub meaning : ℕ → List Token → Meaning RawType TypeFrame TypeState (Piece RawType)
meaning limit ts =
    record { tokens = ts; frame = IsFrame limit; piece = IsPiece type_nesting limit; state = StateHolds limit ts; state_weight = state_weight ts }

-- what the reader answers of the tokens from a place on
abbrev pub TypeAnswer : ℕ → List Token → ℕ → Option (Piece RawType × ℕ) → Type 0
TypeAnswer limit ts at None = Comes (type_at AType (drop at ts)) None
TypeAnswer limit ts at (Some (p, to)) = (r : RawType) × IsPiece type_nesting limit p r × Comes (type_at AType (drop at ts)) (Some (r, drop to ts)) × (to ≤ length ts) × (at < to)
