use Rattle.ev_data.specs.Closed.{recursion_row}
use Rattle.ev_kernel.proofs.Declared.{concluded, none_concluded}
use Rattle.ev_kernel.proofs.declarations.recursion.Goals as goal

pub returns-then-not-has_equation : goal.returns-then-not-has_equation
returns-then-not-has_equation c =
    none_concluded (recursion_row c.args.env.now c.args.op.now c.args.con.now) c.args.sequent.now.goal c.has_equation.result c.has_equation.ensures c.if-not-has_equation.true

pub returns : goal.returns
returns c =
    concluded (recursion_row c.args.env.now c.args.op.now c.args.con.now) c.in_ok-formula.formula c.args.sequent.now.goal c.same.result c.in_ok-formula.ensures c.same.ensures
