use Rattle.std.proofs.Common.{◌≡◌, take}
use Rattle.ev_terms.specs.Term.{terms}
use Rattle.ev_terms.specs.Substitution.{shifts}
use Rattle.ev_terms.proofs.Children.{rank, rank_children, rank_all}
use Rattle.ev_rewrite.proofs.lowering.+lower.Given as goal

abbrev pub decreases-lower_from : goal.decreases-lower_from
decreases-lower_from l = rank l.tree.now

abbrev pub decreases-lower_node : goal.decreases-lower_node
decreases-lower_node l = rank_children l.children.now

abbrev pub decreases-lower_all : goal.decreases-lower_all
decreases-lower_all l = rank_all l.trees.now

abbrev pub invariant-lower_all-loop-tree : goal.invariant-lower_all-loop-tree
invariant-lower_all-loop-tree l = shifts (terms l.all) l.from l.by ≡ terms (take l.tree-index l.trees)
