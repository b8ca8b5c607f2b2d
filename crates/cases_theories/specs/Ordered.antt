-- Graphs whose numbers import smaller numbers only.
use Rattle.std.specs.Prelude.{ℕ, List}
use Rattle.ev_imports.specs.Walks.{imports_of, AreBelow}

-- each number imports smaller ones only
abbrev pub IsOrdered : List (List ℕ) → Type 0
IsOrdered graph = (u : ℕ) → AreBelow u (imports_of graph u)
