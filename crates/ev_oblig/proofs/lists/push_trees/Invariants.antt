use Rattle.std.proofs.Common.{◌≡◌, ◌++◌, take}
use Rattle.ev_oblig.proofs.lists.push_trees.Given as goal

abbrev pub invariant-loop-tree : goal.invariant-loop-tree
invariant-loop-tree l = l.all ≡ l.initial.all ++ take l.tree-index l.trees
