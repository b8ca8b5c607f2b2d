use Rattle.std.proofs.Common.{◌≡◌, ◌≤◌, ◌++◌, length, take, reverse}
use Rattle.ev_oblig.proofs.lists.reversed.Given as goal

abbrev pub invariant-loop-left : goal.invariant-loop-left
invariant-loop-left l = record {
  within : l.left ≤ length l.trees;
  so_far : l.all ++ reverse (take l.left l.trees) ≡ reverse l.trees;
}

abbrev pub decreases-loop-left : goal.decreases-loop-left
decreases-loop-left l = l.left
