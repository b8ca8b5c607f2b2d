use Rattle.std.proofs.Common.{◌≡◌, ◌≤◌, ℕ, List, length, drop}
use Rattle.std.specs.Prelude.{bytes_eq}
use Rattle.std.specs.List.{position_from}
use Rattle.indexmap.specs.IndexMap.{get}
use Rattle.ev_resolve.proofs.formula_names.numbers_of.Given as goal

abbrev pub invariant-names : goal.invariant-names
invariant-names l = record {
  within : l.left ≤ length l.params;
  found : (n : List ℕ) → get bytes_eq l.numbers n ≡ position_from (bytes_eq n) l.left (drop l.left l.params);
}

abbrev pub decreases-names : goal.decreases-names
decreases-names l = l.left
