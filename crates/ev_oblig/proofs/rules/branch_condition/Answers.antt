use Rattle.std.proofs.Common.{rules, sym, ◌∙◌}
use Rattle.std.proofs.lemmas.Bool.{true≢false}
use Rattle.ev_terms.specs.Types.{type_list}
use Rattle.ev_wd.specs.WellDefined.{wd}
use Rattle.ev_oblig.specs.Obligations.{branch_guard}
use Rattle.ev_oblig.proofs.Quantifying.{alls_known}
use Rattle.ev_oblig.proofs.Sizes.{right_small, guard_small}
use Rattle.ev_oblig.proofs.rules.branch_condition.Goals as goal

pub returns-in_err-right-clause-large : goal.returns-in_err-right-clause-large
returns-in_err-right-clause-large c =
    λ e small. c.in_err-right.ensures.large (search rules) (right_small c.args.env.now c.args.sides.now.rule.now c.args.branch.now small)

pub returns-then-is_truth-clause-found : goal.returns-then-is_truth-clause-found
returns-then-is_truth-clause-found c =
    alls_known (type_list c.args.sides.now.rule.now.vars) (branch_guard c.args.env.now c.args.sides.now.rule.now c.args.branch.now.condition) (wd c.args.env.now c.args.branch.now.right)
    c.in_ok-right.right c.in_ok-right.ensures.found (search rules)

pub returns-in_err-guard-clause-large : goal.returns-in_err-guard-clause-large
returns-in_err-guard-clause-large c =
    λ e small.
    c.in_err-guard.ensures.large (search rules)
    (guard_small c.args.env.now c.args.sides.now.rule.now c.args.branch.now c.in_ok-right.right c.in_ok-right.ensures.found (λ p. true≢false (sym (c.is_truth.ensures.1 p) ∙ c.if-is_truth.false)) small)
