use Rattle.std.specs.List.{list_any}
use Rattle.std.proofs.Common.{◌≡◌, drop}
use Rattle.std.specs.Prelude.{bytes_eq}
use Rattle.indexmap.specs.IndexSet.{contains}
use Rattle.ev_elab.specs.inner.Takes.{case_repeats}
use Rattle.ev_elab.proofs.taken.any_case_taken.Given as goal

abbrev pub invariant-loop-case : goal.invariant-loop-case
invariant-loop-case l = list_any (case_repeats (contains bytes_eq l.others)) (drop l.case-index l.cases) ≡ list_any (case_repeats (contains bytes_eq l.others)) l.cases
