use Rattle.ev_kernel.proofs.Equations.{apart}
use Rattle.ev_kernel.proofs.Calculated.{other_type}
use Rattle.ev_kernel.proofs.calculations.valued.Goals as goal

pub returns-then-not-is_int-clause-none : goal.returns-then-not-is_int-clause-none
returns-then-not-is_int-clause-none c =
    other_type c.args.tree.now c.in_ok-ty.ty.now c.in_ok-ty.left.now c.in_ok-ty.right.now c.in_ok-ty.ensures.found (apart c.is_int.result c.is_int.ensures c.if-not-is_int.true)
