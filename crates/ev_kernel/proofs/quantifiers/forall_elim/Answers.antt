use Rattle.ev_kernel.proofs.Binding.{all_row}
use Rattle.ev_kernel.proofs.quantifiers.forall_elim.Goals as goal

pub returns-else-not-is_with : goal.returns-else-not-is_with
returns-else-not-is_with c =
    all_row c.args.env.now c.args.premise.now c.args.sequent.now c.args.term.now c.in-Some.ty.now c.in-Some.body.now c.has_type.result
    (c.stands_beside.ensures.0 c.if-not-stands_beside.false) c.in-Some.ensures.found (c.is_with.ensures.0 c.if-not-is_with.false) c.has_type.ensures
