use Rattle.std.proofs.Common.{◌≡◌, ◌++◌, take}
use Rattle.ev_axioms.proofs.undoing.put_all.Given as goal

abbrev pub invariant-loop-tree : goal.invariant-loop-tree
invariant-loop-tree l = l.stack.items ≡ l.initial.stack.items ++ take l.tree-index l.trees
