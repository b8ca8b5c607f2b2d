use Rattle.std.proofs.Common.{length}
use Rattle.ev_imports.proofs.Walking.{Walking, left}
use Rattle.ev_imports.proofs.reached.reach.Given as goal

abbrev pub invariant-loop-number : goal.invariant-loop-number
invariant-loop-number l = Walking l.lists l.deployed l.name l.is_listed.items l.listed.items l.stack.items

abbrev pub decreases-loop-number : goal.decreases-loop-number
decreases-loop-number l = left l.lists (length l.lists) l.stack.items
