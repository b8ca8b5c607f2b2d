-- How far lines that lie in memory were read, and where a unit stands among them.
use Rattle.std.specs.Prelude.{◌≡◌, ◌≢◌, ◌+◌, ◌<◌, ◌≤◌, ℕ, List, Some, drop, length, slice_range}
use Rattle.std.specs.List.{list_all}
use denote.Ref.{Bor}
use Rattle.theory.specs.declared.script.Head.{Head}
use Rattle.theory.specs.declared.script.Head.TheVariants.{Put}
use Rattle.theory.specs.Words.{are_blanks}
use Rattle.theory.specs.inner.Pieces.{texts}
use Rattle.theory.specs.Scripts.{ScriptUnit, unit_front}

-- The first i lines, which lie in memory, are blank: the units of all lines are those of the rest.
pub record BlankSoFar (lines : List (Bor (List ℕ))) (i : ℕ) : Type 0 where
  pub within : i ≤ length lines
  pub front : unit_front (texts (drop i lines)) ≡ unit_front (texts lines)
  pub blank : list_all are_blanks (texts lines) ≡ list_all are_blanks (texts (drop i lines))

-- Lines that lie in memory begin with the unit that has this head, and as its body the lines from start up to end, where the line
-- stands that ends it.
pub record IsUnitAt (lines : List (Bor (List ℕ))) (head : Head) (start end : ℕ) : Type 0 where
  pub ordered : start ≤ end
  pub within : end < length lines
  pub is : unit_front (texts lines) ≡ Some (record { head = head; body = texts (slice_range lines start end) }, texts (drop (end + 1) lines))

-- no unit that puts a theory begins the lines
abbrev pub PutsNothing : List (List ℕ) → Type 0
PutsNothing lines = (u : ScriptUnit) (after : List (List ℕ)) (name : List ℕ) → unit_front lines ≡ Some (u, after) → u.head ≢ Put name
