use Rattle.ev_data.specs.Closed.{distinctness_row}
use Rattle.ev_kernel.proofs.Declared.{concluded, none_concluded}
use Rattle.ev_kernel.proofs.declarations.distinct_constructors.Goals as goal

pub returns-then-not-has_distinctness : goal.returns-then-not-has_distinctness
returns-then-not-has_distinctness c =
    none_concluded (distinctness_row c.args.env.now c.args.left.now c.args.right.now) c.args.sequent.now.goal c.has_distinctness.result c.has_distinctness.ensures c.if-not-has_distinctness.true

pub returns : goal.returns
returns c =
    concluded (distinctness_row c.args.env.now c.args.left.now c.args.right.now) c.in_ok-formula.formula c.args.sequent.now.goal c.same.result c.in_ok-formula.ensures c.same.ensures
