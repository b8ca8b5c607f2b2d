use Rattle.std.proofs.Common.{drop}
use Rattle.std.specs.Prelude.{◌↔◌}
use Rattle.ev_ops.specs.inner.Tests.{AnyUnguarded}
use Rattle.ev_ops.proofs.admission.some_unguarded.Given as goal

abbrev pub invariant-loop-con : goal.invariant-loop-con
invariant-loop-con l = AnyUnguarded l.sig l.place l.own l.types l.cases (drop l.con-index l.cons) ↔ AnyUnguarded l.sig l.place l.own l.types l.cases l.cons
