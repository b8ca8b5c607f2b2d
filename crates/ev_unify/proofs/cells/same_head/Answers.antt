use Rattle.std.proofs.Common.{ap, ◌∙◌}
use Rattle.ev_unify.specs.inner.Parts.{head, int_head, bool_head, param_head, pow_head, prod_head, data_head, unknown_head}
use Rattle.ev_unify.proofs.Parts.{head-Pow, head-Prod, differ, int_only, bool_only, param_only, pow_only, prod_only, data_only, unknown_only}
use Rattle.ev_unify.proofs.cells.same_head.Goals as goal

pub returns-in_default : goal.returns-in_default
returns-in_default c = differ c.args.a.now c.args.b.now int_head (ap head c.in_default.is-0) (int_only c.args.b.now c.in_default.not-Int-1)

pub returns-in_default-2 : goal.returns-in_default-2
returns-in_default-2 c = differ c.args.a.now c.args.b.now bool_head (ap head c.in_default.is-0) (bool_only c.args.b.now c.in_default.not-Bool-1)

pub returns-in_default-3 : goal.returns-in_default-3
returns-in_default-3 c = differ c.args.a.now c.args.b.now (param_head c.in_default.field-0-0) (ap head c.in_default.is-0) (param_only c.args.b.now c.in_default.field-0-0 c.in_default.not-Param-1)

pub returns-in_default-4 : goal.returns-in_default-4
returns-in_default-4 c = differ c.args.a.now c.args.b.now pow_head (ap head c.in_default.is-0 ∙ head-Pow _) (pow_only c.args.b.now c.in_default.not-Pow-1)

pub returns-in_default-5 : goal.returns-in_default-5
returns-in_default-5 c = differ c.args.a.now c.args.b.now prod_head (ap head c.in_default.is-0 ∙ head-Prod _ _) (prod_only c.args.b.now c.in_default.not-Prod-1)

pub returns-in_default-6 : goal.returns-in_default-6
returns-in_default-6 c = differ c.args.a.now c.args.b.now (data_head c.in_default.field-0-0) (ap head c.in_default.is-0) (data_only c.args.b.now c.in_default.field-0-0 c.in_default.not-Data-1)

pub returns-in_default-7 : goal.returns-in_default-7
returns-in_default-7 c = differ c.args.a.now c.args.b.now (unknown_head c.in_default.field-0-0) (ap head c.in_default.is-0) (unknown_only c.args.b.now c.in_default.field-0-0 c.in_default.not-Unknown-1)
