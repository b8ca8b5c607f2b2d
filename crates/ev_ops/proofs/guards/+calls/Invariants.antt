use Rattle.std.proofs.Common.{◌≡◌, drop}
use Rattle.ev_terms.specs.Term.{terms}
use Rattle.ev_terms.proofs.Children.{rank, rank_all}
use Rattle.ev_ops.specs.inner.Tests.{some_call}
use Rattle.ev_ops.proofs.guards.+calls.Given as goal

abbrev pub decreases-calls : goal.decreases-calls
decreases-calls l = rank l.tree.now

abbrev pub decreases-some_call : goal.decreases-some_call
decreases-some_call l = rank_all l.trees.now

abbrev pub invariant-some_call-loop-tree : goal.invariant-some_call-loop-tree
invariant-some_call-loop-tree l = some_call l.sig.name (terms (drop l.tree-index l.trees)) ≡ some_call l.sig.name (terms l.trees)
