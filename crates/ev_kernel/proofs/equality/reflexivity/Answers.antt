use Rattle.ev_kernel.proofs.Equations.{reflexive}
use Rattle.ev_kernel.proofs.equality.reflexivity.Goals as goal

pub returns-in-Some : goal.returns-in-Some
returns-in-Some c =
    reflexive c.args.sequent.now c.in-Some.field-0-0.now c.in-Some.left.now c.in-Some.right.now c.same.result c.in-Some.ensures.found.0 c.same.ensures
