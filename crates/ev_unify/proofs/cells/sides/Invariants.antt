use Rattle.std.proofs.Common.{take}
use Rattle.ev_unify.specs.inner.Sides.{HasSides}
use Rattle.ev_unify.proofs.cells.sides.Given as goal

abbrev pub invariant-loop-pair : goal.invariant-loop-pair
invariant-loop-pair l = HasSides (take l.pair-index l.pair-items) l.pats.items l.couples.items
