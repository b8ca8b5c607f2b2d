use Rattle.std.proofs.Common.{ap, ◌∙◌}
use Rattle.ev_data.specs.Closed.{recursion_of}
use Rattle.ev_data.proofs.Lists.{some_weaker, none_weaker}
use Rattle.ev_data.proofs.Constructors.{symbol_declared, symbol_undeclared}
use Rattle.ev_data.proofs.equations.find_case.Goals as goal

pub returns-in-Some-clause-found : goal.returns-in-Some-clause-found
returns-in-Some-clause-found c =
    some_weaker c.case_in_entry.result
    (λ x e. ap (λ s. recursion_of c.args.env.now s c.args.con.now) (symbol_declared c.args.env.now c.args.op.now c.in-Some.entry.now c.symbol.ensures.well_formed c.in-Some.ensures.is) ∙ e)
    c.case_in_entry.ensures.found

pub returns-in-Some-clause-none : goal.returns-in-Some-clause-none
returns-in-Some-clause-none c =
    none_weaker c.case_in_entry.result
    (λ e. ap (λ s. recursion_of c.args.env.now s c.args.con.now) (symbol_declared c.args.env.now c.args.op.now c.in-Some.entry.now c.symbol.ensures.well_formed c.in-Some.ensures.is) ∙ e)
    c.case_in_entry.ensures.none

pub returns-in-None-clause-none : goal.returns-in-None-clause-none
returns-in-None-clause-none c = ap (λ s. recursion_of c.args.env.now s c.args.con.now) (symbol_undeclared c.args.env.now c.args.op.now c.symbol.ensures.well_formed c.in-None.ensures.is)
