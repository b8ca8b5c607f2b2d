use Rattle.std.proofs.Common.{◌≡◌, ◌≤◌, length, take}
use Rattle.ev_oblig.specs.Obligations.{make_alls}
use Rattle.ev_oblig.proofs.makers.make_alls.Given as goal

abbrev pub invariant-loop-left : goal.invariant-loop-left
invariant-loop-left l = record {
  within : l.left ≤ length l.types;
  so_far : make_alls (take l.left l.types) l.tree ≡ make_alls l.types l.fn.body;
}

abbrev pub decreases-loop-left : goal.decreases-loop-left
decreases-loop-left l = l.left
