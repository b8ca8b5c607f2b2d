use Rattle.std.proofs.Common.{◌≡◌, ◌≤◌, ◌-◌}
use Rattle.ev_data.specs.Induction.{are_own}
use Rattle.ev_data.proofs.parts.are_own.Given as goal

abbrev pub invariant-loop-left : goal.invariant-loop-left
invariant-loop-left l = record {
  within : l.i ≤ l.n;
  so_far : are_own l.i (l.n - l.i) l.left ≡ are_own 0 l.n l.types;
}
