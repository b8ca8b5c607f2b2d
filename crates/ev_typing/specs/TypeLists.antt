-- Lists of types, and the type parameters of a symbol.
use Rattle.std.specs.Prelude.{ℕ, zero, suc, ◌+◌, List, [], ◌∷◌}
use Rattle.ev_terms.specs.declared.types.Ty.{Ty, Param}
use Rattle.ev_terms.specs.declared.types.Tys.{Tys, Empty}
use Rattle.ev_terms.specs.Types.{more}

-- a list of types
abbrev pub types : List Ty → Tys
types [] = Empty
types (A ∷ As) = more A (types As)

-- the n parameters from i on
abbrev pub params_from : ℕ → ℕ → Tys
params_from i zero = Empty
params_from i (suc n) = more (Param i) (params_from (i + 1) n)

-- a symbol's own type parameters
abbrev pub own_types : ℕ → Tys
own_types n = params_from 0 n
