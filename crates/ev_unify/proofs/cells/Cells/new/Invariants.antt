use Rattle.std.proofs.Common.{nat_eq, drop}
use Rattle.std.specs.HashMap.{get}
use Rattle.ev_unify.specs.inner.Cells.{AreNumbered}
use Rattle.ev_unify.proofs.Spread.{weight}
use Rattle.ev_unify.proofs.cells.Cells.new.Given as goal

abbrev pub invariant-loop-i : goal.invariant-loop-i
invariant-loop-i l = AreNumbered l.initial.pats.items l.pats.items l.firsts.items l.homes.items (get nat_eq l.places) l.i

abbrev pub decreases-loop-i : goal.decreases-loop-i
decreases-loop-i l = weight (drop l.i l.pats.items)
