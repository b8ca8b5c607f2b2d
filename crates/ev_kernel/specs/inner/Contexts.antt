-- A context with one more variable, or with none.
use Rattle.std.specs.Prelude.{List, [], ◌∷◌, Option, Some, None}
use Rattle.ev_terms.specs.declared.types.Ty.{Ty}

-- the types of at most one variable
abbrev pub optional : Option Ty → List Ty
optional None = []
optional (Some A) = A ∷ []
