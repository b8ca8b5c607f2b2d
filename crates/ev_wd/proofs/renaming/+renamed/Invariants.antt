use Rattle.std.proofs.Common.{◌≡◌, map, take}
use Rattle.ev_terms.specs.Substitution.{inst, lifts}
use Rattle.ev_terms.proofs.Children.{rank, rank_children, rank_all}
use Rattle.ev_wd.specs.inner.Renaming.{renaming}
use Rattle.ev_wd.proofs.renaming.+renamed.Given as goal

abbrev pub decreases-renamed_under : goal.decreases-renamed_under
decreases-renamed_under l = rank l.tree.now

abbrev pub decreases-renamed_node : goal.decreases-renamed_node
decreases-renamed_node l = rank_children l.children.now

abbrev pub decreases-renamed_all : goal.decreases-renamed_all
decreases-renamed_all l = rank_all l.trees.now

abbrev pub invariant-renamed_all-loop-tree : goal.invariant-renamed_all-loop-tree
invariant-renamed_all-loop-tree l = l.all ≡ map (inst (lifts l.under (renaming l.kept))) (take l.tree-index l.trees)
