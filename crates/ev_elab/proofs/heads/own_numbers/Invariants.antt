use Rattle.std.proofs.Common.{◌≡◌, ◌≤◌, ℕ, length, drop}
use Rattle.std.specs.Prelude.{nat_eq, ◌==◌}
use Rattle.std.specs.List.{position_from}
use Rattle.indexmap.specs.IndexMap.{get}
use Rattle.ev_elab.proofs.heads.own_numbers.Given as goal

abbrev pub invariant-ids : goal.invariant-ids
invariant-ids l = record {
  within : l.left ≤ length l.ids;
  found : (i : ℕ) → get nat_eq l.numbers i ≡ position_from (λ j. j == i) l.left (drop l.left l.ids);
}

abbrev pub decreases-ids : goal.decreases-ids
decreases-ids l = l.left
