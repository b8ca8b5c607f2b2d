-- The work of the reader of formulas: what its frames and states stand for.
use Rattle.std.specs.Prelude.{◌≡◌, ℕ, zero, suc, ◌-◌, ◌≤◌, ◌==◌, ◌||◌, Bool, if◌then◌else◌, List, [], ◌∷◌, ◌++◌, Option, Some, drop, length}
use Rattle.ev_syntax.specs.Marks.{open_brace, close_brace, close_paren, close_bracket, bar, dot, minus_sign, not_word, finite_word, inverse_sign, open_paren, open_bracket, oftype_word}
use Rattle.ev_syntax.specs.Tokens.{Token}
use Rattle.ev_syntax.specs.Raw.{Binder, Pattern, Raw, Raws, call, around, unary, binary, apply, image, quantified, set_of, collected, lambda, members, one, none}
use Rattle.ev_syntax.specs.Parts.{is_among}
use Rattle.ev_syntax.specs.inner.Lookahead.{operator_of, is_from}
use Rattle.ev_syntax.specs.inner.Finding.{Found, on_found}
use Rattle.ev_syntax.specs.inner.TypeParser.{expect}
use Rattle.ev_syntax.specs.inner.BinderParser.{listed, parse_binders}
use Rattle.ev_syntax.specs.inner.FormulaParser.{Want, level, a_lit, a_conj, a_pred, once_levels, prim, posts, after_operand, collects, literal_at, related, connect, connected, implied, whole_of, parse}
use Rattle.ev_syntax.specs.inner.Resuming.{Behind, Reach, FromCall}
use Rattle.ev_syntax.specs.inner.Pieces.{IsPiece}
use Rattle.ev_syntax.specs.inner.Machines.{Meaning, weight_at}
use Rattle.ev_syntax.specs.inner.BinderAnswers.{binder_nesting, own_nesting, IsPattern}
use Rattle.ev_parse.specs.inner.Forms.{IsRaw, args_nesting, members_nesting, raw_onto}
use Rattle.ev_parse.specs.declared.states.RawPiece.{RawPiece}
use Rattle.ev_parse.specs.declared.states.Stage.{Stage}
use Rattle.ev_parse.specs.declared.states.Stage.TheVariants.{Lit, Conj, Pred}
use Rattle.ev_parse.specs.declared.states.Goal.{Goal}
use Rattle.ev_parse.specs.declared.states.Goal.TheVariants.{Level, Stage as AStage}
use Rattle.ev_parse.specs.declared.states.Frame.{Frame}
use Rattle.ev_parse.specs.declared.states.Frame.TheVariants.{Paren, Around, Args, Members, SetBody, Argument, Image, Right, Minus, Body, Value, LambdaBody, LambdaValue, Not, Quantified, Finite, Inner, Related, Relation, Connective, Implication}
use Rattle.ev_parse.specs.declared.states.State.{State}
use Rattle.ev_parse.specs.declared.states.State.TheVariants.{Call, Primary, Operand, Literal, Chain, Conjunct}

abbrev pub level_at : ℕ → List Token → ℕ → Option (Found Raw)
level_at k ts g = parse g (level k) ts

abbrev pub stage_want : Stage → Want
stage_want Lit = a_lit
stage_want Conj = a_conj
stage_want Pred = a_pred

abbrev pub stage_at : Stage → List Token → ℕ → Option (Found Raw)
stage_at s ts g = parse g (stage_want s) ts

abbrev pub goal_at : Goal → List Token → ℕ → Option (Found Raw)
goal_at (Level k) ts g = parse g (level k) ts
goal_at (AStage s) ts g = parse g (stage_want s) ts

-- there are levels from 0 to 9
abbrev pub IsGoal : Goal → Type 0
IsGoal (Level k) = k ≤ 9
IsGoal (AStage s) = Unit {0}

abbrev pub prim_at : List Token → ℕ → Option (Found Raw)
prim_at ts g = prim g (parse g (level 0)) (parse g a_pred) ts

-- behind a primary, behind an operand of the next level, the work of some levels
abbrev pub post_behind : Behind Raw
post_behind n g a ts = posts n (parse g (level 0)) a ts

abbrev pub level_behind : ℕ → Behind Raw
level_behind k n g a ts = after_operand k n (parse g (level (suc k))) a ts

abbrev pub levels : ℕ → ℕ → List (Behind Raw)
levels k zero = []
levels k (suc d) = level_behind k ∷ levels (suc k) d

-- the levels from one on below another
abbrev pub between : ℕ → ℕ → List (Behind Raw)
between k j = levels k (j - k)

abbrev pub tail : ℕ → List (Behind Raw)
tail k = between k 9 ++ post_behind ∷ []

-- what ends `{xs . P | E}`, `UNION xs . P | E`, and where it then stands
abbrev pub ended : ℕ → List Token → Raw → Option (Found Raw)
ended m ts e = if m == open_brace then expect close_brace ts (λ rest. Some (e, rest)) else Some (e, ts)

-- binders behind a mark, then a dot, a predicate, a bar and a value
abbrev pub collecting : ℕ → List Token → ℕ → Option (Found Raw)
collecting m ts g = on_found (parse_binders g ts) (λ bs us. expect dot us (λ vs. collects (parse g (level 0)) (parse g a_pred) (λ p e ws. ended m ws (collected m bs p e)) vs))

-- a literal or quantified predicate
abbrev pub literal_part : List Token → ℕ → Option (Found Raw)
literal_part ts g = literal_at g (parse g a_lit) (parse g (level 0)) (parse g a_pred) ts

-- binders behind a quantifier, then a dot and a predicate
abbrev pub quantifying : ℕ → List Token → ℕ → Option (Found Raw)
quantifying m ts g = on_found (parse_binders g ts) (λ bs us. expect dot us (λ vs. on_found (parse g a_pred vs) (λ p rest. whole_of (quantified m bs p) rest)))

-- a mark that goes on with an expression
abbrev pub goes_on_by : ℕ → Bool
goes_on_by m = is_from 0 (operator_of m) || (m == inverse_sign || (m == open_paren || (m == open_bracket || m == oftype_word)))

-- behind a literal, behind a conjunction or disjunction
abbrev pub literal_behind : Behind Raw
literal_behind n g a ts = connected n (parse g a_lit) a ts

abbrev pub chain_behind : ℕ → Behind Raw
chain_behind m n g a ts = connect n (parse g a_lit) m a ts

abbrev pub implied_behind : Behind Raw
implied_behind n g a ts = implied (parse g a_conj) a ts

abbrev pub stage_rest : Stage → List (Behind Raw)
stage_rest Lit = []
stage_rest Conj = []
stage_rest Pred = implied_behind ∷ []

abbrev pub stage_tail : Stage → List (Behind Raw)
stage_tail Lit = []
stage_tail Conj = literal_behind ∷ []
stage_tail Pred = implied_behind ∷ literal_behind ∷ []

-- what the frames do
abbrev pub paren_behind : Behind Raw
paren_behind n g e ts = expect close_paren ts (λ rest. Some (e, rest))

abbrev pub around_behind : ℕ → Behind Raw
around_behind m n g e ts = expect close_paren ts (λ rest. Some (around m e, rest))

abbrev pub more_items : ℕ → ℕ → List Token → Option (Found Raws)
more_items n g ts = listed none one n (parse g (level 0)) ts

abbrev pub args_behind : List ℕ → List Raw → Behind Raw
args_behind x done n g e ts = on_found (more_items n g ts) (λ es us. expect close_paren us (λ rest. Some (call x (raw_onto done (one e es)), rest)))

abbrev pub members_behind : List Raw → Behind Raw
members_behind done n g e ts = on_found (more_items n g ts) (λ es us. expect close_brace us (λ rest. Some (members (raw_onto done (one e es)), rest)))

abbrev pub set_behind : Binder → Behind Raw
set_behind b n g p ts = expect close_brace ts (λ rest. Some (set_of b p, rest))

abbrev pub argument_behind : Raw → Behind Raw
argument_behind f n g e ts = expect close_paren ts (λ rest. posts n (parse g (level 0)) (apply f e) rest)

abbrev pub image_behind : Raw → Behind Raw
image_behind f n g e ts = expect close_bracket ts (λ rest. posts n (parse g (level 0)) (image f e) rest)

abbrev pub right_behind : ℕ → ℕ → Raw → Behind Raw
right_behind m l a n g b ts = if is_among once_levels l then Some (binary m a b, ts) else after_operand l n (parse g (level (suc l))) (binary m a b) ts

abbrev pub minus_behind : Behind Raw
minus_behind n g e ts = Some (unary minus_sign e, ts)

abbrev pub body_tail : ℕ → ℕ → List (Behind Raw)
body_tail m k = if m == open_brace then tail k else []

abbrev pub value_behind : ℕ → List Binder → Raw → Behind Raw
value_behind m bs p n g e ts = ended m ts (collected m bs p e)

abbrev pub body_behind : ℕ → List Binder → Behind Raw
body_behind m bs n g p ts = expect bar ts (λ us. on_found (parse g (level 0) us) (λ e vs. ended m vs (collected m bs p e)))

abbrev pub lambda_value_behind : Pattern → Raw → Behind Raw
lambda_value_behind x p n g e ts = Some (lambda x p e, ts)

abbrev pub lambda_body_behind : Pattern → Behind Raw
lambda_body_behind x n g p ts = expect bar ts (λ us. on_found (parse g (level 0) us) (λ e vs. Some (lambda x p e, vs)))

abbrev pub not_behind : Behind Raw
not_behind n g p ts = Some (unary not_word p, ts)

abbrev pub quantified_behind : ℕ → List Binder → Behind Raw
quantified_behind m bs n g p ts = whole_of (quantified m bs p) ts

abbrev pub related_behind : Behind Raw
related_behind n g a ts = related (parse g (level 0)) a ts

abbrev pub binary_behind : ℕ → Raw → Behind Raw
binary_behind m a n g b ts = Some (binary m a b, ts)

abbrev pub connective_behind : ℕ → Raw → Behind Raw
connective_behind m a n g b ts = connect n (parse g a_lit) m (binary m a b) ts

module _ (limit : ℕ) where
  abbrev pub IsFrame : Frame → List (Behind Raw) → Type 0
  IsFrame (Paren k) cs = cs ≡ tail k ++ paren_behind ∷ []
  IsFrame (Around m k) cs = cs ≡ tail k ++ around_behind m ∷ []
  IsFrame (Args x es k) cs = (rs : List Raw) × IsPiece args_nesting limit es rs × (cs ≡ tail k ++ args_behind x rs ∷ [])
  IsFrame (Members es k) cs = (rs : List Raw) × IsPiece members_nesting limit es rs × (cs ≡ tail k ++ members_behind rs ∷ [])
  IsFrame (SetBody b k) cs = (x : Binder) × IsPiece binder_nesting limit b x × (cs ≡ tail k ++ set_behind x ∷ [])
  IsFrame (Argument f k) cs = (r : Raw) × IsRaw limit f r × (cs ≡ between k 9 ++ argument_behind r ∷ [])
  IsFrame (Image f k) cs = (r : Raw) × IsRaw limit f r × (cs ≡ between k 9 ++ image_behind r ∷ [])
  IsFrame (Right m l a k) cs = (r : Raw) × IsRaw limit a r × (cs ≡ between k l ++ right_behind m l r ∷ []) × (k ≤ l)
  IsFrame (Minus k) cs = cs ≡ between k 7 ++ minus_behind ∷ []
  IsFrame (Body m bs k) cs = (xs : List Binder) × IsPiece own_nesting limit bs xs × (cs ≡ body_tail m k ++ body_behind m xs ∷ [])
  IsFrame (Value m bs p k) cs = (xs : List Binder) × (r : Raw) × IsPiece own_nesting limit bs xs × IsRaw limit p r × (cs ≡ body_tail m k ++ value_behind m xs r ∷ [])
  IsFrame (LambdaBody x) cs = (y : Pattern) × IsPattern limit x y × (cs ≡ lambda_body_behind y ∷ [])
  IsFrame (LambdaValue x p) cs = (y : Pattern) × (r : Raw) × IsPattern limit x y × IsRaw limit p r × (cs ≡ lambda_value_behind y r ∷ [])
  IsFrame (Not s) cs = cs ≡ stage_tail s ++ not_behind ∷ []
  IsFrame (Quantified m bs s) cs = (xs : List Binder) × IsPiece own_nesting limit bs xs × (cs ≡ stage_tail s ++ quantified_behind m xs ∷ [])
  IsFrame (Finite s) cs = cs ≡ stage_tail s ++ around_behind finite_word ∷ []
  IsFrame (Inner s) cs = cs ≡ stage_tail s ++ paren_behind ∷ []
  IsFrame (Related s) cs = cs ≡ stage_tail s ++ related_behind ∷ []
  IsFrame (Relation m a s) cs = (r : Raw) × IsRaw limit a r × (cs ≡ stage_tail s ++ binary_behind m r ∷ [])
  IsFrame (Connective m a s) cs = (r : Raw) × IsRaw limit a r × (cs ≡ stage_rest s ++ connective_behind m r ∷ [])
  IsFrame (Implication m a) cs = (r : Raw) × IsRaw limit a r × (cs ≡ binary_behind m r ∷ [])

  module _ (ts : List Token) (whole : ℕ → Option (Found Raw)) where
    -- a piece that ends before a place
    abbrev pub PieceReaches : List (Behind Raw) → RawPiece → ℕ → Type 0
    PieceReaches bs p at = (r : Raw) × IsRaw limit p r × Reach whole bs (Some (r, drop at ts)) × (at ≤ length ts)

    abbrev pub StateHolds : List (Behind Raw) → State → Type 0
    StateHolds bs (Call (Level k) at) = FromCall whole bs (level_at k (drop at ts)) × (at ≤ length ts) × (k ≤ 9)
    StateHolds bs (Call (AStage s) at) = FromCall whole bs (stage_at s (drop at ts)) × (at ≤ length ts)
    StateHolds bs (Primary p at k) = PieceReaches (bs ++ tail k) p at
    StateHolds bs (Operand p at j k) = PieceReaches (bs ++ between k j) p at
    StateHolds bs (Literal p at s) = PieceReaches (bs ++ stage_tail s) p at
    StateHolds bs (Chain m p at s) = PieceReaches (bs ++ (stage_rest s ++ chain_behind m ∷ [])) p at
    StateHolds bs (Conjunct p at s) = PieceReaches (bs ++ stage_rest s) p at

-- what falls with each step
abbrev pub state_weight : List Token → State → ℕ
state_weight ts (Call (Level k) at) = weight_at ts at 6
state_weight ts (Call (AStage s) at) = weight_at ts at 12
state_weight ts (Primary p at k) = weight_at ts at 3
state_weight ts (Operand p at j k) = weight_at ts at 2
state_weight ts (Literal p at s) = weight_at ts at 4
state_weight ts (Chain m p at s) = weight_at ts at 3
state_weight ts (Conjunct p at s) = weight_at ts at 2

abbrev pub meaning : ℕ → List Token → Meaning Raw Frame State RawPiece
meaning limit ts = record { tokens = ts; frame = IsFrame limit; piece = IsRaw limit; state = StateHolds limit ts; state_weight = state_weight ts }
