use Rattle.ev_unify.specs.inner.Ranks.{labor}
use Rattle.ev_unify.proofs.Ranking.{IsTour}
use Rattle.ev_unify.proofs.cells.Cells.visit.Given as goal

abbrev pub invariant-loop-visit : goal.invariant-loop-visit
invariant-loop-visit l = IsTour l.self.pats.items l.self.firsts.items l.roots l.fn.marks l.fn.start l.marks l.path.items

abbrev pub decreases-loop-visit : goal.decreases-loop-visit
decreases-loop-visit l = labor l.self.pats.items l.self.firsts.items l.marks l.path.items
