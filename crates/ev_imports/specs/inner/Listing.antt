-- The list of the reached numbers in terms of walks.
use Rattle.std.specs.Prelude.{◌≡◌, ◌≢◌, ◌⊎◌, ◌<◌, ℕ, Bool, true, List, [], ◌∷◌, length, get_or}
use Rattle.std.specs.List.{Contains}
use Rattle.ev_imports.specs.Walks.{Imports}
use Rattle.ev_imports.specs.Cycles.{ComesBefore}
use Rattle.ev_imports.specs.Reached.{is_deployed}

-- A walk from t along the imports at these positions enters deployed numbers only, and ends at u.
abbrev pub IsDeployedWalk : List (List ℕ) → List Bool → ℕ → List ℕ → ℕ → Type 0
IsDeployedWalk graph deployed t [] u = t ≡ u
IsDeployedWalk graph deployed t (i ∷ is) u = (v : ℕ) × Imports graph t i v × (is_deployed deployed v ≡ true) × IsDeployedWalk graph deployed v is u

-- these are the positions of the first such walk of at least one import, in lexicographic order
pub record IsFirstWalk (graph : List (List ℕ)) (deployed : List Bool) (t : ℕ) (positions : List ℕ) (u : ℕ) : Type 0 where
  pub some : positions ≢ []
  pub is_walk : IsDeployedWalk graph deployed t positions u
  pub first : (is : List ℕ) → IsDeployedWalk graph deployed t is u → ComesBefore is positions → ⊥

-- the one walk ends before the other, depth first: it takes an earlier import where they part, or it goes on where the other ends
abbrev pub EndsBefore : List ℕ → List ℕ → Type 0
EndsBefore (i ∷ is) (j ∷ js) = (i < j) ⊎ ((i ≡ j) × EndsBefore is js)
EndsBefore (i ∷ is) [] = Unit {0}
EndsBefore [] js = ⊥

-- The numbers to which a walk from t over deployed numbers leads, each once and after those that it imports, in the order in which the
-- first walks to them end.
pub record ListsReached (graph : List (List ℕ)) (deployed : List Bool) (t : ℕ) (listed : List ℕ) : Type 0 where
  pub walks : List (List ℕ)
  pub one_each : length walks ≡ length listed
  pub first_walks : (k : ℕ) → k < length listed → IsFirstWalk graph deployed t (get_or walks k []) (get_or listed k 0)
  pub in_order : (j k : ℕ) → j < k → k < length listed → EndsBefore (get_or walks j []) (get_or walks k [])
  pub complete : (is : List ℕ) (u : ℕ) → is ≢ [] → IsDeployedWalk graph deployed t is u → Contains listed u
  pub once : (j k : ℕ) → j < k → k < length listed → get_or listed j 0 ≢ get_or listed k 0
  pub imports_first : (k i v : ℕ) → k < length listed → Imports graph (get_or listed k 0) i v → is_deployed deployed v ≡ true
      → (j : ℕ) × (j < k) × (get_or listed j 0 ≡ v)
