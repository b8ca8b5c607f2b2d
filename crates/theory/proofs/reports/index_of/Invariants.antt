use Rattle.std.proofs.Common.{take}
use Rattle.std.specs.Prelude.{bytes_eq}
use Rattle.indexmap.specs.IndexMap.{get}
use Rattle.theory.specs.inner.Reports.{IsIndexOf}
use Rattle.theory.proofs.reports.index_of.Given as goal

abbrev pub invariant-loop-at : goal.invariant-loop-at
invariant-loop-at l = IsIndexOf l.theory (take l.at l.all) l.all (get bytes_eq l.index)
