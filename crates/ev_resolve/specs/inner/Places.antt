-- Where the variables of a scope stand, by a table of names.
use Rattle.std.specs.Prelude.{◌≡◌, ℕ, List, [], ◌∷◌, map, reverse, length, bytes_eq, Option, Some, None, if◌then◌else◌}
use Rattle.std.specs.HashMap.{HashMap, get}
use Rattle.ev_resolve.specs.Reading.{option_is}
use Rattle.ev_resolve.specs.declared.scope.ScopeVariable.{ScopeVariable}
use Rattle.ev_resolve.specs.declared.scope.Slot.{Slot}

abbrev pub variables_of : List Slot → List ScopeVariable
variables_of slots = map (λ (s : Slot). s.variable) slots

-- the place of the innermost variable of a name, counted from the outermost, where the innermost stands first here
abbrev pub place_in : List Slot → List ℕ → Option ℕ
place_in [] n = None
place_in (s ∷ ss) n = if option_is n s.variable.name then Some (length ss) else place_in ss n

-- the same of a variable that may have no name
abbrev pub hidden_in : List Slot → Option (List ℕ) → Option ℕ
hidden_in ss None = None
hidden_in ss (Some n) = place_in ss n

-- each variable keeps the place of the one that it hides
abbrev pub Hides : List Slot → Type 0
Hides [] = Unit {0}
Hides (s ∷ ss) = (s.hidden ≡ hidden_in ss s.variable.name) × Hides ss

-- the table finds the innermost variable of each name
pub record IsScope {S : Type 0} (m : HashMap (List ℕ) ℕ S) (slots : List Slot) : Type 0 where
  pub found : (n : List ℕ) → get bytes_eq m n ≡ place_in (reverse slots) n
  pub hidden : Hides (reverse slots)
