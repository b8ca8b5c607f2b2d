use Rattle.std.proofs.Common.{◌≡◌, drop}
use Rattle.ev_terms.specs.Term.{terms}
use Rattle.ev_terms.proofs.Children.{rank, rank_all}
use Rattle.ev_wd.specs.inner.Marks.{all_marked}
use Rattle.ev_wd.proofs.marks.+mark.Given as goal

abbrev pub decreases-mark : goal.decreases-mark
decreases-mark l = rank l.tree.now

abbrev pub decreases-mark_all : goal.decreases-mark_all
decreases-mark_all l = rank_all l.trees.now

abbrev pub invariant-mark_all-loop-tree : goal.invariant-mark_all-loop-tree
invariant-mark_all-loop-tree l = all_marked l.from l.marks (terms (drop l.tree-index l.trees)) ≡ all_marked l.from l.fn.marks (terms l.trees)
