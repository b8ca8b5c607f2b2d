-- The numbers that a number reaches by its imports.
use Rattle.std.specs.Prelude.{◌==◌, ◌&&◌, ℕ, zero, suc, Bool, false, not, List, [], ◌∷◌, ◌++◌, if◌then◌else◌, length, get_or, drop}
use Rattle.std.specs.List.{fold, list_any}
use Rattle.ev_imports.specs.Walks.{imports_of}

-- the number stands in the list
abbrev pub has_number : List ℕ → ℕ → Bool
has_number listed u = list_any (λ v. v == u) listed

-- u is deployed
abbrev pub is_deployed : List Bool → ℕ → Bool
is_deployed deployed u = get_or deployed u false

-- What is listed once u is visited, where some numbers were listed before: u is entered only where it is deployed and not yet
-- listed, its imports are visited in order, and then it is listed. The depth bounds the walk.
abbrev pub visit : ℕ → List (List ℕ) → List Bool → List ℕ → ℕ → List ℕ
visit zero graph deployed listed u = listed
visit (suc depth) graph deployed listed u =
    if is_deployed deployed u && not (has_number listed u)
    then fold (visit depth graph deployed) listed (imports_of graph u) ++ u ∷ []
    else listed

-- what the imports of t reach, in order; no walk without a cycle is longer than the graph
abbrev pub reached : List (List ℕ) → List Bool → ℕ → List ℕ
reached graph deployed t = fold (visit (length graph) graph deployed) [] (imports_of graph t)

-- for each of these imports, what it reaches first where some numbers were listed before
abbrev pub reached_by_each : ℕ → List (List ℕ) → List Bool → List ℕ → List ℕ → List (List ℕ)
reached_by_each depth graph deployed listed [] = []
reached_by_each depth graph deployed listed (u ∷ us) =
    drop (length listed) (visit depth graph deployed listed u) ∷ reached_by_each depth graph deployed (visit depth graph deployed listed u) us
