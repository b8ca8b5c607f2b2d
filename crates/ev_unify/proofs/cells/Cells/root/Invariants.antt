use Rattle.ev_unify.specs.inner.Links.{height}
use Rattle.ev_unify.proofs.Forest.{IsWalk}
use Rattle.ev_unify.proofs.cells.Cells.root.Given as goal

abbrev pub invariant-loop-links : goal.invariant-loop-links
invariant-loop-links l = IsWalk l.fn.self.pats.items l.fn.self.firsts.items l.initial.links l.fn.part l.links l.i

abbrev pub decreases-loop-links : goal.decreases-loop-links
decreases-loop-links l = height l.fn.self.pats.items l.i
