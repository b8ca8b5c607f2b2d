use Rattle.std.specs.List.{list_any}
use Rattle.std.proofs.Common.{◌≡◌, drop}
use Rattle.ev_elab.specs.inner.Takes.{case_takes}
use Rattle.ev_elab.proofs.taken.any_case_takes.Given as goal

abbrev pub invariant-loop-case : goal.invariant-loop-case
invariant-loop-case l = list_any (case_takes l.names.1 l.names.0) (drop l.case-index l.cases) ≡ list_any (case_takes l.names.1 l.names.0) l.cases
