use Rattle.ev_unify.specs.inner.Links.{effort, IsMerging}
use Rattle.ev_unify.proofs.cells.Cells.merge.Given as goal

abbrev pub invariant-loop-couple : goal.invariant-loop-couple
invariant-loop-couple l = IsMerging l.self.pats.items l.self.firsts.items l.initial.links l.initial.work.items l.links l.work.items

abbrev pub decreases-loop-couple : goal.decreases-loop-couple
decreases-loop-couple l = effort l.self.pats.items l.links l.work.items
