use Rattle.std.specs.List.{list_any}
use Rattle.std.proofs.Common.{◌≡◌, drop}
use Rattle.ev_elab.specs.inner.Tests.{case_fails}
use Rattle.ev_elab.proofs.unknown.any_case_fails.Given as goal

abbrev pub invariant-loop-case : goal.invariant-loop-case
invariant-loop-case l =
    list_any (case_fails l.names.1 l.names.0 l.count l.args l.by) (drop l.case-index l.cases) ≡ list_any (case_fails l.names.1 l.names.0 l.count l.args l.by) l.cases
