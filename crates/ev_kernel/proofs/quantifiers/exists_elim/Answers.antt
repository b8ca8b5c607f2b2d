use Rattle.ev_kernel.proofs.Binding.{exists_row}
use Rattle.ev_kernel.proofs.quantifiers.exists_elim.Goals as goal

pub returns-in-Some : goal.returns-in-Some
returns-in-Some c =
    exists_row c.args.first.now c.args.second.now c.args.sequent.now c.in-Some.ty.now c.in-Some.body.now c.assumes_under.result (c.stands_beside.ensures.0 c.if-not-stands_beside.false)
    c.in-Some.ensures.found c.assumes_under.ensures
