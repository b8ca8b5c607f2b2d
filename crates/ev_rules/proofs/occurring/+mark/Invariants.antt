use Rattle.std.proofs.Common.{◌≡◌, drop}
use Rattle.ev_terms.specs.Term.{terms}
use Rattle.ev_terms.proofs.Children.{rank, rank_all}
use Rattle.ev_typing.specs.Occurs.{mention_param}
use Rattle.ev_rules.specs.inner.Marks.{marked}
use Rattle.ev_rules.proofs.occurring.+mark.Given as goal

abbrev pub decreases-mark : goal.decreases-mark
decreases-mark l = rank l.tree.now

abbrev pub decreases-mark_all : goal.decreases-mark_all
decreases-mark_all l = rank_all l.trees.now

abbrev pub invariant-mark_all-loop-tree : goal.invariant-mark_all-loop-tree
invariant-mark_all-loop-tree l = marked 0 (λ j. mention_param j (terms (drop l.tree-index l.trees))) l.marks ≡ marked 0 (λ j. mention_param j (terms l.trees)) l.fn.marks
