use Rattle.ev_unify.specs.inner.Links.{RootsAre}
use Rattle.ev_unify.proofs.cells.Cells.roots.Given as goal

abbrev pub invariant-loop-i : goal.invariant-loop-i
invariant-loop-i l = RootsAre l.self.pats.items l.self.firsts.items l.initial.links l.links l.roots.items l.i
