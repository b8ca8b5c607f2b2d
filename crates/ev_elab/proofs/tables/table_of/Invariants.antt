use Rattle.std.proofs.Common.{◌≡◌, ◌≤◌, ℕ, List, length, drop}
use Rattle.std.specs.Prelude.{bytes_eq}
use Rattle.indexmap.specs.IndexSet.{contains}
use Rattle.ev_resolve.specs.UsedNames.{is_name_among}
use Rattle.ev_elab.proofs.tables.table_of.Given as goal

abbrev pub invariant-names : goal.invariant-names
invariant-names l = record {
  within : l.left ≤ length l.names;
  found : (n : List ℕ) → contains bytes_eq l.table n ≡ is_name_among (drop l.left l.names) n;
}

abbrev pub decreases-names : goal.decreases-names
decreases-names l = l.left
