use Rattle.std.specs.List.{list_any}
use Rattle.std.proofs.Common.{◌≡◌, drop}
use Rattle.ev_elab.specs.inner.Tests.{con_fails}
use Rattle.ev_elab.proofs.unknown.any_con_fails.Given as goal

abbrev pub invariant-loop-con : goal.invariant-loop-con
invariant-loop-con l =
    list_any (con_fails l.names.1 l.names.0 l.count) (drop l.con-index l.cons) ≡ list_any (con_fails l.names.1 l.names.0 l.count) l.cons
