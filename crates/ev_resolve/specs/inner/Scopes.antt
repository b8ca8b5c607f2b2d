-- The variables in scope as the code keeps them, the outermost first.
use Rattle.std.specs.Prelude.{◌≡◌, ℕ, List, map, reverse, position, bytes_eq, if◌then◌else◌}
use Rattle.std.specs.HashMap.{HashMap, get}
use Rattle.ev_terms.specs.declared.types.Ty.{Int, Prop}
use Rattle.ev_resolve.specs.Reading.{Variable, Meaning, variable, predicate, parameter, symbol, nothing}
use Rattle.ev_resolve.specs.declared.scope.ScopeVariable.{ScopeVariable}
use Rattle.ev_resolve.specs.declared.names.Meant.{Meant}
use Rattle.ev_resolve.specs.declared.names.Meant.TheVariants.{Variable as AVariable, Predicate, Parameter, Symbol, Nothing}

-- of a variable only its name counts, and whether it stands for a predicate
abbrev pub seen : ScopeVariable → Variable
seen v = record { name = v.name; type = if v.is_predicate then Prop else Int }

-- the variables, the innermost first
abbrev pub scope_of : List ScopeVariable → List Variable
scope_of vs = reverse (map seen vs)

abbrev pub meaning_told : Meant → Meaning
meaning_told (AVariable i) = variable i
meaning_told (Predicate i) = predicate i
meaning_told (Parameter i) = parameter i
meaning_told (Symbol k) = symbol k
meaning_told Nothing = nothing

-- the table finds the number of each type parameter, and of no other name
abbrev pub IsNumbering : {S : Type 0} → HashMap (List ℕ) ℕ S → List (List ℕ) → Type 0
IsNumbering m params = (n : List ℕ) → get bytes_eq m n ≡ position (bytes_eq n) params
