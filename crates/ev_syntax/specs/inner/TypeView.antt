-- Written types by their forms, and their height.
use Rattle.std.specs.Prelude.{ℕ, ◌+◌, max, List, [], ◌∷◌}
use Rattle.ev_syntax.specs.Raw.{RawType, RawTypes, int_type, bool_type, param_type, named_type, pow_type, prod_type, no_types, one_type}
use Rattle.ev_syntax.specs.declared.written.RawTypeForm.{RawTypeForm}
use Rattle.ev_syntax.specs.declared.written.RawTypeForm.TheVariants.{Int, Bool, Param, Named, Pow, Prod}

abbrev pub raw_types : List RawType → RawTypes
raw_types [] = no_types
raw_types (a ∷ types) = one_type a (raw_types types)

-- the type of a form
abbrev pub raw_type_of : RawTypeForm → RawType
raw_type_of Int = int_type
raw_type_of Bool = bool_type
raw_type_of (Param i) = param_type i
raw_type_of (Named n types) = named_type n (raw_types types)
raw_type_of (Pow a) = pow_type a
raw_type_of (Prod a b) = prod_type a b

abbrev mutual
  pub height : RawType → ℕ
  height int_type = 1
  height bool_type = 1
  height (param_type i) = 1
  height (named_type n types) = 1 + types_height types
  height (pow_type a) = 1 + height a
  height (prod_type a b) = 1 + max (height a) (height b)

  pub types_height : RawTypes → ℕ
  types_height no_types = 0
  types_height (one_type a types) = max (height a) (types_height types)
