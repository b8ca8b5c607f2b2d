use Rattle.std.proofs.Common.{rules}
use Rattle.ev_wd.specs.Limits.{IsSmall}
use Rattle.ev_wd.specs.WellDefined.{wd}
use Rattle.ev_oblig.proofs.Sizes.{left_small, asked_small, none_holds}
use Rattle.ev_oblig.proofs.rules.guard_of.Goals as goal

pub returns-in_default-clause-large : goal.returns-in_default-clause-large
returns-in_default-clause-large c =
    λ e small.
    none_holds (¬ IsSmall (wd c.args.env.now c.args.sides.now.rule.now.left)) c.args.sides.now.left c.requires.left_large c.in_default.not-Some
    (left_small c.args.env.now c.args.sides.now.rule.now c.args.condition.now small)

pub returns-in_err-asked-clause-large : goal.returns-in_err-asked-clause-large
returns-in_err-asked-clause-large c =
    λ e small.
    c.in_err-asked.ensures.large (search rules)
    (asked_small c.args.env.now c.args.sides.now.rule.now c.args.condition.now c.in_ok-condition.condition c.in_ok-condition.ensures small)
