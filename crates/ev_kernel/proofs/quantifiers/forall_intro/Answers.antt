use Rattle.ev_kernel.proofs.Equations.{apart}
use Rattle.ev_kernel.proofs.Binding.{any_row, not_under}
use Rattle.ev_kernel.proofs.quantifiers.forall_intro.Goals as goal

pub returns-then-not-stands_under : goal.returns-then-not-stands_under
returns-then-not-stands_under c =
    not_under c.args.premise.now c.args.sequent.now c.in-Some.ty.now c.in-Some.body.now (apart c.stands_under.result c.stands_under.ensures c.if-not-stands_under.true) c.in-Some.ensures.found

pub returns-else-not-stands_under : goal.returns-else-not-stands_under
returns-else-not-stands_under c =
    any_row c.args.premise.now c.args.sequent.now c.in-Some.ty.now c.in-Some.body.now c.same.result (c.stands_under.ensures.0 c.if-not-stands_under.false) c.in-Some.ensures.found c.same.ensures
