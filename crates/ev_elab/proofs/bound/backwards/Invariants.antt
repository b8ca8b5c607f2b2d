use Rattle.std.proofs.Common.{◌≡◌, ◌≤◌, length, reverse, drop}
use Rattle.ev_elab.proofs.bound.backwards.Given as goal

abbrev pub invariant-names : goal.invariant-names
invariant-names l = record {
  within : l.left ≤ length l.names;
  back : reverse l.back.items ≡ drop l.left l.names;
}

abbrev pub decreases-names : goal.decreases-names
decreases-names l = l.left
