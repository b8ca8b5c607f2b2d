use Rattle.ev_kernel.proofs.Equations.{symmetric}
use Rattle.ev_kernel.proofs.equality.symmetry.Goals as goal

pub returns-in-Some : goal.returns-in-Some
returns-in-Some c =
    symmetric c.args.premise.now c.args.sequent.now c.in-Some.types.now c.in-Some.left.now c.in-Some.right.now c.is_equation.result
    (c.stands_beside.ensures.0 c.if-not-stands_beside.false) c.in-Some.ensures.found.0 c.in-Some.ensures.found.1 c.is_equation.ensures
