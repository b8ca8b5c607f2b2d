-- Names that are not in scope.
use Rattle.std.specs.Prelude.{ℕ, Bool, not, List}
use Rattle.std.specs.List.{list_any}
use Rattle.ev_syntax.specs.Raw.{Raw}
use Rattle.ev_typing.specs.Env.{Env}
use Rattle.ev_resolve.specs.UsedNames.{is_formula_name, used_names}
use Rattle.ev_resolve.specs.Resolve.{known_of}

-- no formula name
abbrev pub is_unknown : Env → List (List ℕ) → List ℕ → Bool
is_unknown env params n = not (is_formula_name params (known_of env) n)

-- some name that is used where these are bound is no formula name
abbrev pub uses_unknown : Env → List (List ℕ) → Raw → List (List ℕ) → Bool
uses_unknown env params raw bound = list_any (is_unknown env params) (used_names raw bound)
