use Rattle.std.proofs.Common.{ap, ◌∙◌}
use Rattle.ev_typing.specs.Env.{ConOf}
use Rattle.ev_data.specs.inner.Found.{constructed}
use Rattle.ev_data.proofs.Lists.{some_weaker, none_weaker}
use Rattle.ev_data.proofs.Constructors.{symbol_declared, symbol_undeclared, not_constructed}
use Rattle.ev_data.proofs.Environments.{symbol_good}
use Rattle.ev_data.proofs.look_ups.constructor.Goals as goal

pub returns-in-Some-clause-found : goal.returns-in-Some-clause-found
returns-in-Some-clause-found c =
    some_weaker c.constructor_of.result (λ p e. symbol_declared c.args.env.now c.args.name.now c.in-Some.entry.now c.symbol.ensures.well_formed c.in-Some.ensures.is ∙ e) c.constructor_of.ensures.found

pub returns-in-Some-clause-none : goal.returns-in-Some-clause-none
returns-in-Some-clause-none c =
    none_weaker c.constructor_of.result
    (λ e. not_constructed _ (ap constructed (symbol_declared c.args.env.now c.args.name.now c.in-Some.entry.now c.symbol.ensures.well_formed c.in-Some.ensures.is) ∙ e)) c.constructor_of.ensures.none

pub returns-in-Some-clause-small : goal.returns-in-Some-clause-small
returns-in-Some-clause-small c =
    some_weaker c.constructor_of.result
    (λ p e. (symbol_good c.args.env.now c.symbol.ensures.well_formed c.args.name.now (ConOf p.0.now p.1.now)
    (symbol_declared c.args.env.now c.args.name.now c.in-Some.entry.now c.symbol.ensures.well_formed c.in-Some.ensures.is ∙ e)).count) c.constructor_of.ensures.found

pub returns-in-None-clause-none : goal.returns-in-None-clause-none
returns-in-None-clause-none c = not_constructed _ (ap constructed (symbol_undeclared c.args.env.now c.args.name.now c.symbol.ensures.well_formed c.in-None.ensures.is))
