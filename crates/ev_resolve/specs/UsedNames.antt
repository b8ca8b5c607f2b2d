-- The names that a formula uses and binds, and those that are names of formulas.
use Rattle.std.specs.Prelude.{ℕ, Bool, ◌||◌, not, List, [], ◌∷◌, ◌++◌, map, bytes_eq, Option, Some, None, is_some}
use Rattle.std.specs.List.{list_any, filter}
use Rattle.ev_syntax.specs.Raw.{RawType, RawTypes, int_type, bool_type, param_type, named_type, pow_type, prod_type, no_types, one_type, Binder, pattern_binders, Raw, Raws, word, literal, param, type_set, call, around, unary, binary, inverse, apply, image, of_type, quantified, set_of, collected, lambda, members, written, none, one}
use Rattle.ev_resolve.specs.Reading.{Known, Variable}

-- the names that a written type uses
abbrev mutual
  pub type_names : RawType → List (List ℕ)
  type_names int_type = []
  type_names bool_type = []
  type_names (param_type i) = []
  type_names (named_type n types) = n ∷ types_names types
  type_names (pow_type a) = type_names a
  type_names (prod_type a b) = type_names a ++ type_names b

  pub types_names : RawTypes → List (List ℕ)
  types_names no_types = []
  types_names (one_type a types) = type_names a ++ types_names types

abbrev pub written_names : Option RawType → List (List ℕ)
written_names None = []
written_names (Some a) = type_names a

abbrev pub binders_types_names : List Binder → List (List ℕ)
binders_types_names [] = []
binders_types_names (b ∷ bs) = written_names b.type ++ binders_types_names bs

abbrev pub names_of : List Binder → List (List ℕ)
names_of bs = map (λ b. b.name) bs

abbrev pub is_name_among : List (List ℕ) → List ℕ → Bool
is_name_among names n = list_any (bytes_eq n) names

-- those names that are not among the bound ones
abbrev pub without_bound : List (List ℕ) → List (List ℕ) → List (List ℕ)
without_bound bound names = filter (λ n. not (is_name_among bound n)) names

-- The names that a formula uses where it means no variable: the names in its types, and the others that are not bound there.
abbrev mutual
  pub used_names : Raw → List (List ℕ) → List (List ℕ)
  used_names (word m) bound = []
  used_names (literal n) bound = []
  used_names (param i) bound = []
  used_names (type_set a) bound = type_names a
  used_names (call n es) bound = without_bound bound (n ∷ []) ++ all_used_names es bound
  used_names (around m e) bound = used_names e bound
  used_names (unary m e) bound = used_names e bound
  used_names (binary m e f) bound = used_names e bound ++ used_names f bound
  used_names (inverse e) bound = used_names e bound
  used_names (apply e f) bound = used_names e bound ++ used_names f bound
  used_names (image e f) bound = used_names e bound ++ used_names f bound
  used_names (of_type e a) bound = used_names e bound ++ type_names a
  used_names (quantified m bs e) bound = binders_types_names bs ++ used_names e (names_of bs ++ bound)
  used_names (set_of b e) bound = binders_types_names (b ∷ []) ++ used_names e (b.name ∷ bound)
  used_names (collected m bs e f) bound =
      binders_types_names bs ++ (used_names e (names_of bs ++ bound) ++ used_names f (names_of bs ++ bound))
  used_names (lambda x e f) bound =
      binders_types_names (pattern_binders x) ++ (used_names e (names_of (pattern_binders x) ++ bound) ++ used_names f (names_of (pattern_binders x) ++ bound))
  used_names (members es) bound = all_used_names es bound
  used_names (written a) bound = type_names a

  pub all_used_names : Raws → List (List ℕ) → List (List ℕ)
  all_used_names none bound = []
  all_used_names (one e es) bound = used_names e bound ++ all_used_names es bound

-- the numbers i of its `?i`, in types and elsewhere
abbrev mutual
  pub type_params : RawType → List ℕ
  type_params int_type = []
  type_params bool_type = []
  type_params (param_type i) = i ∷ []
  type_params (named_type n types) = types_params types
  type_params (pow_type a) = type_params a
  type_params (prod_type a b) = type_params a ++ type_params b

  pub types_params : RawTypes → List ℕ
  types_params no_types = []
  types_params (one_type a types) = type_params a ++ types_params types

abbrev pub written_params : Option RawType → List ℕ
written_params None = []
written_params (Some a) = type_params a

abbrev pub binders_params : List Binder → List ℕ
binders_params [] = []
binders_params (b ∷ bs) = written_params b.type ++ binders_params bs

abbrev mutual
  pub used_params : Raw → List ℕ
  used_params (word m) = []
  used_params (literal n) = []
  used_params (param i) = i ∷ []
  used_params (type_set a) = type_params a
  used_params (call n es) = all_used_params es
  used_params (around m e) = used_params e
  used_params (unary m e) = used_params e
  used_params (binary m e f) = used_params e ++ used_params f
  used_params (inverse e) = used_params e
  used_params (apply e f) = used_params e ++ used_params f
  used_params (image e f) = used_params e ++ used_params f
  used_params (of_type e a) = used_params e ++ type_params a
  used_params (quantified m bs e) = binders_params bs ++ used_params e
  used_params (set_of b e) = binders_params (b ∷ []) ++ used_params e
  used_params (collected m bs e f) = binders_params bs ++ (used_params e ++ used_params f)
  used_params (lambda x e f) = binders_params (pattern_binders x) ++ (used_params e ++ used_params f)
  used_params (members es) = all_used_params es
  used_params (written a) = type_params a

  pub all_used_params : Raws → List ℕ
  all_used_params none = []
  all_used_params (one e es) = used_params e ++ all_used_params es

-- the names that it binds
abbrev mutual
  pub binder_names : Raw → List (List ℕ)
  binder_names (word m) = []
  binder_names (literal n) = []
  binder_names (param i) = []
  binder_names (type_set a) = []
  binder_names (call n es) = all_binder_names es
  binder_names (around m e) = binder_names e
  binder_names (unary m e) = binder_names e
  binder_names (binary m e f) = binder_names e ++ binder_names f
  binder_names (inverse e) = binder_names e
  binder_names (apply e f) = binder_names e ++ binder_names f
  binder_names (image e f) = binder_names e ++ binder_names f
  binder_names (of_type e a) = binder_names e
  binder_names (quantified m bs e) = names_of bs ++ binder_names e
  binder_names (set_of b e) = b.name ∷ binder_names e
  binder_names (collected m bs e f) = names_of bs ++ (binder_names e ++ binder_names f)
  binder_names (lambda x e f) = names_of (pattern_binders x) ++ (binder_names e ++ binder_names f)
  binder_names (members es) = all_binder_names es
  binder_names (written a) = []

  pub all_binder_names : Raws → List (List ℕ)
  all_binder_names none = []
  all_binder_names (one e es) = binder_names e ++ all_binder_names es

-- a type parameter, a datatype, or a symbol
abbrev pub is_formula_name : List (List ℕ) → Known → List ℕ → Bool
is_formula_name params known n = is_name_among params n || (known.is_datatype n || is_some (known.argument_count n))

abbrev pub name_list : Option (List ℕ) → List (List ℕ)
name_list None = []
name_list (Some n) = n ∷ []

-- the names of variables that a text can name
abbrev pub variable_names : List Variable → List (List ℕ)
variable_names [] = []
variable_names (v ∷ vs) = name_list v.name ++ variable_names vs
