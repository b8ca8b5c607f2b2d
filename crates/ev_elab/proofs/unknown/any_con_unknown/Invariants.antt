use Rattle.std.specs.List.{list_any}
use Rattle.std.proofs.Common.{◌≡◌, drop}
use Rattle.ev_elab.specs.inner.Tests.{con_unknown}
use Rattle.ev_elab.proofs.unknown.any_con_unknown.Given as goal

abbrev pub invariant-loop-case : goal.invariant-loop-case
invariant-loop-case l = list_any (con_unknown l.names.1 l.names.0) (drop l.case-index l.cases) ≡ list_any (con_unknown l.names.1 l.names.0) l.cases
