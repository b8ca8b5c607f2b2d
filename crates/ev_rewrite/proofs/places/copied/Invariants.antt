use Rattle.std.proofs.Common.{◌≡◌, take}
use Rattle.ev_rewrite.proofs.places.copied.Given as goal

abbrev pub invariant-loop-tree : goal.invariant-loop-tree
invariant-loop-tree l = l.copy.items ≡ take l.tree-index l.trees
