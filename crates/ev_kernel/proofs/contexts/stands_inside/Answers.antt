use Rattle.std.proofs.Common.{ap}
use Rattle.std.specs.Option.{option_copied}
use Rattle.ev_kernel.proofs.Congruence.{beside_inside}
use Rattle.ev_kernel.proofs.contexts.stands_inside.Goals as goal

pub returns-in-None : goal.returns-in-None
returns-in-None c =
    beside_inside c.args.sequent.now c.args.other.now (option_copied c.args.ty) c.stands_beside.result (ap option_copied c.in-None.is) c.stands_beside.ensures
