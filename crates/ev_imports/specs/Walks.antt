-- Imports as a graph: each number has the list of the numbers that it imports, in order. Walks go along import positions.
use Rattle.std.specs.Prelude.{◌≡◌, ◌≢◌, ◌<◌, ℕ, List, [], ◌∷◌, length, get_or, slice_get, Some}
use Rattle.std.specs.List.{All}

-- the imports of u; a number past the end has none
abbrev pub imports_of : List (List ℕ) → ℕ → List ℕ
imports_of graph u = get_or graph u []

-- the import of u at position i, from 0, is v
abbrev pub Imports : List (List ℕ) → ℕ → ℕ → ℕ → Type 0
Imports graph u i v = slice_get (imports_of graph u) i ≡ Some v

-- each of these numbers has an import list in a graph of n lists
abbrev pub AreBelow : ℕ → List ℕ → Type 0
AreBelow n numbers = All (λ v. v < n) numbers

-- all imports are numbers that have an import list
abbrev pub InRange : List (List ℕ) → Type 0
InRange graph = All (AreBelow (length graph)) graph

-- A walk from t along the imports at these positions goes through these numbers, t not counted, and ends at u.
abbrev pub IsWalk : List (List ℕ) → ℕ → List ℕ → List ℕ → ℕ → Type 0
IsWalk graph t [] [] u = t ≡ u
IsWalk graph t (i ∷ is) (v ∷ vs) u = Imports graph t i v × IsWalk graph v is vs u
IsWalk graph t _ _ u = ⊥

-- a walk of at least one import from t back to t
abbrev pub IsCycle : List (List ℕ) → ℕ → List ℕ → List ℕ → Type 0
IsCycle graph t is vs = (is ≢ []) × IsWalk graph t is vs t

-- no walk of imports leads from t back to t
abbrev pub HasNoCycle : List (List ℕ) → ℕ → Type 0
HasNoCycle graph t = (is vs : List ℕ) → IsCycle graph t is vs → ⊥
