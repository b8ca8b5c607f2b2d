use Rattle.std.proofs.Common.{◌≡◌, drop}
use Rattle.ev_terms.specs.Term.{terms}
use Rattle.ev_terms.proofs.Children.{rank, rank_all}
use Rattle.ev_typing.specs.Occurs.{have_var}
use Rattle.ev_oblig.proofs.occurs.+occurs.Given as goal

abbrev pub decreases-has_var : goal.decreases-has_var
decreases-has_var l = rank l.tree.now

abbrev pub decreases-have_var : goal.decreases-have_var
decreases-have_var l = rank_all l.trees.now

abbrev pub invariant-have_var-loop-tree : goal.invariant-have_var-loop-tree
invariant-have_var-loop-tree l = have_var l.variable (terms (drop l.tree-index l.trees)) ≡ have_var l.variable (terms l.trees)
