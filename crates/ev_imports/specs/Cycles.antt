-- The first of the shortest walks that lead back to where they begin.
use Rattle.std.specs.Prelude.{◌≡◌, ◌<◌, ◌≤◌, ◌⊎◌, ℕ, List, ◌∷◌, length}
use Rattle.ev_imports.specs.Walks.{IsCycle}

-- the one list of positions comes before the other in lexicographic order, where neither is the beginning of the other
abbrev pub ComesBefore : List ℕ → List ℕ → Type 0
ComesBefore (i ∷ is) (j ∷ js) = (i < j) ⊎ ((i ≡ j) × ComesBefore is js)
ComesBefore _ _ = ⊥

-- The walk, from t to t with both written, goes along the positions that come first among those of the shortest cycles.
pub record IsFirstCycle (graph : List (List ℕ)) (t : ℕ) (walk : List ℕ) : Type 0 where
  pub positions : List ℕ
  pub later : List ℕ
  pub walk_is : walk ≡ t ∷ later
  pub is_cycle : IsCycle graph t positions later
  pub shortest : (is vs : List ℕ) → IsCycle graph t is vs → length positions ≤ length is
  pub first : (is vs : List ℕ) → IsCycle graph t is vs → length is ≡ length positions → ComesBefore is positions → ⊥
