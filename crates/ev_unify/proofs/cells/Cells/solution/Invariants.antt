use Rattle.ev_unify.specs.inner.Binding.{HasBinds}
use Rattle.ev_unify.proofs.cells.Cells.solution.Given as goal

abbrev pub invariant-loop-i : goal.invariant-loop-i
invariant-loop-i l = HasBinds l.self.pats.items l.roots l.binds l.i
