-- What a pattern is made of: its head and its children, the first one first.
use Rattle.std.specs.Prelude.{ℕ, ◌==◌, Bool as Boolean, true, false, List, [], ◌∷◌}
use Rattle.ev_unify.specs.declared.patterns.Pat.{Pat, Int, Bool, Param, Data, Unknown}
use Rattle.ev_unify.specs.Patterns.{pow_pat, prod_pat, pat_list}

-- a constructor of types with what it holds beside types, or an unknown
pub data Head : Type 0 where
  int_head : Head
  bool_head : Head
  prop_head : Head
  param_head : ℕ → Head
  pow_head : Head
  prod_head : Head
  data_head : List ℕ → Head
  unknown_head : ℕ → Head

abbrev pub head : Pat → Head
head Int = int_head
head Bool = bool_head
head (Param i) = param_head i
head (pow_pat a) = pow_head
head (prod_pat a b) = prod_head
head (Data n ps) = data_head n
head (Unknown u) = unknown_head u

abbrev pub children_of : Pat → List Pat
children_of Int = []
children_of Bool = []
children_of (Param i) = []
children_of (pow_pat a) = a ∷ []
children_of (prod_pat a b) = a ∷ b ∷ []
children_of (Data n ps) = pat_list ps
children_of (Unknown u) = []

abbrev pub is_unknown : Pat → Boolean
is_unknown Int = false
is_unknown Bool = false
is_unknown (Param i) = false
is_unknown (pow_pat a) = false
is_unknown (prod_pat a b) = false
is_unknown (Data n ps) = false
is_unknown (Unknown u) = true

-- the pattern is this unknown
abbrev pub is_at : ℕ → Pat → Boolean
is_at w Int = false
is_at w Bool = false
is_at w (Param i) = false
is_at w (pow_pat a) = false
is_at w (prod_pat a b) = false
is_at w (Data n ps) = false
is_at w (Unknown u) = u == w
