use Rattle.std.proofs.Common.{◌≡◌, ◌≤◌, ◌-◌, ◌↔◌, IsTrue, Bool}
use Rattle.ev_typing.specs.TypeLists.{params_from, own_types}
use Rattle.ev_ops.proofs.guards.are_own_types.Given as goal

abbrev pub invariant-loop-left : goal.invariant-loop-left
invariant-loop-left l = record {
  within : l.i ≤ l.n;
  goes_on : (b : Bool) → (IsTrue b ↔ (l.left ≡ params_from l.i (l.n - l.i))) → (IsTrue b ↔ (l.types ≡ own_types l.n));
}
