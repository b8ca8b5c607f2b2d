use Rattle.std.proofs.Common.{refl}
use Rattle.ev_infer.proofs.UnknownSteps.{leave_by}
use Rattle.ev_infer.proofs.unknowns.leave.Goals as goal

pub returns-clause-known : goal.returns-clause-known
returns-clause-known c =
    leave_by c.args._binds.now c.args.limit.now c.args.visit.unknown c.args.pat.now c.args.marks.now _ c.args.bulks.now _ c.args.types.now _ c.pat_bulk-bulk.result c.in_ok-ty.ty
    c.requires.inside c.requires.bound c.requires.parts c.pat_bulk-bulk.ensures c.in_ok-ty.ensures refl refl refl c.requires.known
