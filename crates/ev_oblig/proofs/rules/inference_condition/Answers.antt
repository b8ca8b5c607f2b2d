use Rattle.std.proofs.Common.{rules, ap, sym, ◌∙◌}
use Rattle.std.proofs.lemmas.Bool.{true≢false}
use Rattle.ev_terms.specs.Types.{type_list}
use Rattle.ev_wd.specs.WellDefined.{wd}
use Rattle.ev_oblig.specs.Obligations.{givens_formula}
use Rattle.ev_oblig.proofs.Quantifying.{alls_known}
use Rattle.ev_oblig.proofs.Sizes.{givens_small, conclusion_small}
use Rattle.ev_oblig.proofs.rules.inference_condition.Goals as goal

pub returns-in_err-inner-clause-large : goal.returns-in_err-inner-clause-large
returns-in_err-inner-clause-large c =
    λ e small. c.in_err-inner.ensures.large (search rules) (givens_small c.args.env.now c.args.rule.now c.args.givens.now c.requires.givens small)

pub returns-then-is_truth-clause-found : goal.returns-then-is_truth-clause-found
returns-then-is_truth-clause-found c =
    alls_known (type_list c.args.rule.now.vars) (wd c.args.env.now c.args.rule.now.conclusion) (wd c.args.env.now (givens_formula c.args.rule.now.givens)) c.in_ok-inner.inner
    (c.in_ok-inner.ensures.found ∙ ap (wd c.args.env.now) c.requires.givens) (search rules)

pub returns-in_err-guard-clause-large : goal.returns-in_err-guard-clause-large
returns-in_err-guard-clause-large c =
    λ e small.
    c.in_err-guard.ensures.large (search rules)
    (conclusion_small c.args.env.now c.args.rule.now c.args.givens.now c.in_ok-inner.inner c.requires.givens c.in_ok-inner.ensures.found
    (λ p. true≢false (sym (c.is_truth.ensures.1 p) ∙ c.if-is_truth.false)) small)
