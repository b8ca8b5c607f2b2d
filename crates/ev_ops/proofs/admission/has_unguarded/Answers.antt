use Rattle.std.proofs.Common.{sym}
use Rattle.ev_ops.proofs.Admitting.{as_listed}
use Rattle.ev_ops.proofs.admission.has_unguarded.Goals as goal

pub returns : goal.returns
returns c =
    as_listed c.args.sig.now c.args.place c.args.cases.now c.as_slice-in-Some.result.now c.args.decl.now c.as_slice.result.now c.args.types.now c.in-Some.own.now c.some_unguarded.result c.as_slice-in-Some.ensures c.as_slice.ensures
    c.requires (sym c.in-Some.ensures) c.some_unguarded.ensures
