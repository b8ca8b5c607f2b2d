-- The imports of a project as a graph: the theories are numbered in the project's order, and all names without a text have the one number
-- behind them, which imports nothing and is never deployed.
use Rattle.std.specs.Prelude.{◌≡◌, ℕ, ◌++◌, Bool as Boolean, false, List, [], ◌∷◌, map, length, bytes_eq, get_or}
use Rattle.std.specs.List.{position_or_len}
use Rattle.ev_typing.specs.Env.{Name}
use Rattle.ev_imports.specs.Walks.{HasNoCycle}
use Rattle.ev_imports.specs.Cycles.{IsFirstCycle}
use Rattle.ev_imports.specs.Reached.{reached, reached_by_each}
use Rattle.ev_project.specs.declared.projects.TheoryText.{TheoryText}
use Rattle.ev_project.specs.Projects.{Project}

-- the names of the theories, in order
abbrev pub theory_names : Project → List Name
theory_names p = map (λ (t : TheoryText). t.name) p.0

abbrev pub number_of : Project → Name → ℕ
number_of p n = position_or_len (λ m. bytes_eq m n) (theory_names p)

abbrev pub name_of : Project → ℕ → Name
name_of p i = get_or (theory_names p) i []

module _ (p : Project) (imports : Name → List Name) where
  -- for each number the numbers that it imports
  abbrev pub graph : List (List ℕ)
  graph = map (λ n. map (number_of p) (imports n)) (theory_names p) ++ [] ∷ []

  -- for each number whether it is deployed
  abbrev pub marks : List Boolean
  marks = map (λ (t : TheoryText). t.marked) p.0 ++ false ∷ []

  -- the theories that a theory reaches, in order
  abbrev pub reached_names : Name → List Name
  reached_names n = map (name_of p) (reached graph marks (number_of p n))

  -- for each of these imports the theories that are first reached by it
  abbrev pub names_by_each : List Name → List (List Name)
  names_by_each ns = map (map (name_of p)) (reached_by_each (length graph) graph marks [] (map (number_of p) ns))

  -- the walk of names is the first of the shortest ones from a theory back to it
  abbrev pub IsCycleOf : Name → List Name → Type 0
  IsCycleOf n walk = (numbers : List ℕ) × IsFirstCycle graph (number_of p n) numbers × (walk ≡ map (name_of p) numbers)

  -- no walk leads from the theory back to it
  abbrev pub HasNoCycleAt : Name → Type 0
  HasNoCycleAt n = HasNoCycle graph (number_of p n)

  -- nor from any
  abbrev pub HasNoCycles : Type 0
  HasNoCycles = (t : ℕ) → HasNoCycle graph t
