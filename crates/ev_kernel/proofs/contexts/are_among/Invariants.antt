use Rattle.std.proofs.Common.{drop}
use Rattle.std.specs.Prelude.{◌↔◌, Contains}
use Rattle.std.specs.List.{AllByRecursion}
use Rattle.ev_kernel.proofs.contexts.are_among.Given as goal

abbrev pub invariant-loop-tree : goal.invariant-loop-tree
invariant-loop-tree l = AllByRecursion (Contains l.others) (drop l.tree-index l.trees) ↔ AllByRecursion (Contains l.others) l.trees
