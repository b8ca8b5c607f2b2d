use Rattle.std.proofs.Common.{take}
use Rattle.std.specs.List.{AllZip}
use Rattle.theory.specs.Reports.{HasStatus}
use Rattle.theory.proofs.reports.statuses.Given as goal

abbrev pub invariant-loop-at : goal.invariant-loop-at
invariant-loop-at g l = AllZip (HasStatus l.proofs l.theory.name) (take l.at l.theorems) l.statuses
