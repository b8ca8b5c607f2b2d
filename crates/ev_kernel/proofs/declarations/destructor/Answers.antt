use Rattle.ev_data.specs.Closed.{destructor_row}
use Rattle.ev_kernel.proofs.Declared.{concluded, none_concluded}
use Rattle.ev_kernel.proofs.declarations.destructor.Goals as goal

pub returns-then-not-has_destructor_equation : goal.returns-then-not-has_destructor_equation
returns-then-not-has_destructor_equation c =
    none_concluded (destructor_row c.args.env.now c.args.con.now c.args.place) c.args.sequent.now.goal c.has_destructor_equation.result c.has_destructor_equation.ensures c.if-not-has_destructor_equation.true

pub returns : goal.returns
returns c =
    concluded (destructor_row c.args.env.now c.args.con.now c.args.place) c.in_ok-formula.formula c.args.sequent.now.goal c.same.result c.in_ok-formula.ensures c.same.ensures
