use Rattle.std.proofs.Common.{◌≡◌, ◌≤◌, ℕ, List, false, length, drop}
use Rattle.std.specs.Prelude.{bytes_eq}
use Rattle.indexmap.specs.IndexSet.{contains}
use Rattle.ev_resolve.specs.UsedNames.{is_name_among}
use Rattle.ev_elab.specs.Taken.{repeats}
use Rattle.ev_elab.proofs.tables.repeats.Given as goal

abbrev pub invariant-names : goal.invariant-names
invariant-names l = record {
  within : l.left ≤ length l.names;
  found : (n : List ℕ) → contains bytes_eq l.table n ≡ is_name_among (drop l.left l.names) n;
  apart : repeats (drop l.left l.names) ≡ false;
}

abbrev pub decreases-names : goal.decreases-names
decreases-names l = l.left
