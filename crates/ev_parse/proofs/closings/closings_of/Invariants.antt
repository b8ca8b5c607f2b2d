use Rattle.std.proofs.Common.{◌≡◌, ◌+◌, ◌≤◌, length}
use Rattle.ev_parse.specs.inner.Closings.{IsTable}
use Rattle.ev_parse.proofs.closings.closings_of.Given as goal

abbrev pub invariant-loop-at : goal.invariant-loop-at
invariant-loop-at l = IsTable l.reader l.table.items × (length l.table.items + l.at ≡ length l.reader + 1) × (l.at ≤ length l.reader)

abbrev pub decreases-loop-at : goal.decreases-loop-at
decreases-loop-at l = l.at
