use Rattle.std.proofs.Common.{rules, sym, ◌∙◌}
use Rattle.std.proofs.lemmas.Bool.{true≢false}
use Rattle.ev_wd.specs.Makers.{make_imp, make_or}
use Rattle.ev_wd.proofs.Walking.{guarded_imp, guarded_or, guarded_second}
use Rattle.ev_wd.proofs.conditions.+condition.Goals as goal

pub both_condition-returns-in_err-second-clause-large :
    goal.both_condition-returns-in_err-second-clause-large
both_condition-returns-in_err-second-clause-large t c =
    λ e small.
    c.in_err-second.ensures.large (search rules)
    (guarded_imp c.args.env.now c.args.children.now c.in-Some.left.now c.in-Some.right.now c.in-Some.ensures.found small)

pub both_condition-returns-in_err-second-2-clause-large :
    goal.both_condition-returns-in_err-second-2-clause-large
both_condition-returns-in_err-second-2-clause-large t c =
    λ e small.
    c.in_err-second-2.ensures.large (search rules)
    (guarded_second c.args.env.now make_imp c.args.children.now c.in-Some.left.now c.in-Some.right.now c.in_ok-second.second c.in-Some.ensures.found c.in_ok-second.ensures.found.0 small)

pub either_condition-returns-in_err-second-clause-large :
    goal.either_condition-returns-in_err-second-clause-large
either_condition-returns-in_err-second-clause-large t c =
    λ e small.
    c.in_err-second.ensures.large (search rules)
    (guarded_or c.args.env.now c.args.children.now c.in-Some.left.now c.in-Some.right.now c.in-Some.ensures.found
    (λ p. true≢false (sym (c.is_truth.ensures.1 p) ∙ c.if-is_truth.false)) small)

pub either_condition-returns-in_err-second-2-clause-large :
    goal.either_condition-returns-in_err-second-2-clause-large
either_condition-returns-in_err-second-2-clause-large t c =
    λ e small.
    c.in_err-second-2.ensures.large (search rules)
    (guarded_second c.args.env.now make_or c.args.children.now c.in-Some.left.now c.in-Some.right.now c.in_ok-second.second c.in-Some.ensures.found c.in_ok-second.ensures.found.0 small)
