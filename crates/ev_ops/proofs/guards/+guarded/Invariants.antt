use Rattle.std.proofs.Common.{drop}
use Rattle.std.specs.Prelude.{◌↔◌}
use Rattle.ev_terms.specs.Term.{terms}
use Rattle.ev_terms.proofs.Children.{rank, rank_all}
use Rattle.ev_ops.specs.inner.Tests.{AreGuardedUnder}
use Rattle.ev_ops.proofs.guards.+guarded.Given as goal

abbrev pub decreases-is_guarded : goal.decreases-is_guarded
decreases-is_guarded l = rank l.tree.now

abbrev pub decreases-are_guarded : goal.decreases-are_guarded
decreases-are_guarded l = rank_all l.trees.now

abbrev pub invariant-are_guarded-loop-tree : goal.invariant-are_guarded-loop-tree
invariant-are_guarded-loop-tree l =
    AreGuardedUnder l.guard.sig.now l.guard.place l.guard.own.now l.guard.types.now l.guard.con.now l.depth (terms (drop l.tree-index l.trees))
    ↔ AreGuardedUnder l.guard.sig.now l.guard.place l.guard.own.now l.guard.types.now l.guard.con.now l.depth (terms l.trees)
