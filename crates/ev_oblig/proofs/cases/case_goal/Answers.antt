use Rattle.std.proofs.Common.{rules}
use Rattle.ev_typing.specs.WellFormed.{case_context}
use Rattle.ev_wd.specs.WellDefined.{wd}
use Rattle.ev_oblig.specs.Obligations.{case_condition}
use Rattle.ev_oblig.proofs.Quantifying.{alls_known}
use Rattle.ev_oblig.proofs.Sizes.{case_small}
use Rattle.ev_oblig.proofs.cases.case_goal.Goals as goal

pub returns-in_err-inner-clause-large : goal.returns-in_err-inner-clause-large
returns-in_err-inner-clause-large c =
    λ e small.
    c.in_err-inner.ensures.large (search rules)
    (case_small c.args.env.now c.args.operator.now.signature.now c.args.operator.now.condition.now c.args.operator.now.place c.args.operator.now.types.now c.args.con.now c.args.body.now small)

pub returns-then-is_truth-clause-found : goal.returns-then-is_truth-clause-found
returns-then-is_truth-clause-found c =
    alls_known (case_context c.args.operator.now.signature.now c.args.operator.now.place c.args.operator.now.types.now c.args.con.now)
    (case_condition c.args.operator.now.signature.now c.args.operator.now.condition.now c.args.operator.now.place c.args.operator.now.types.now c.args.con.now) (wd c.args.env.now c.args.body.now)
    c.in_ok-inner.inner c.in_ok-inner.ensures.found (search rules)
