use Rattle.std.proofs.Common.{drop}
use Rattle.std.specs.Prelude.{◌↔◌}
use Rattle.ev_ops.specs.inner.Tests.{HasUnguarded}
use Rattle.ev_ops.proofs.admission.con_unguarded.Given as goal

abbrev pub invariant-loop-case : goal.invariant-loop-case
invariant-loop-case l =
    HasUnguarded l.guard.sig.now l.guard.place l.guard.own.now l.guard.types.now l.guard.con.now (drop l.case-index l.cases)
    ↔ HasUnguarded l.guard.sig.now l.guard.place l.guard.own.now l.guard.types.now l.guard.con.now l.cases
