use Rattle.std.proofs.Common.{ap, sym, ◌∙◌}
use Rattle.std.specs.Prelude.{Some}
use Rattle.ev_data.proofs.Lists.{some_weaker, none_weaker}
use Rattle.ev_data.proofs.Cases.{few_args, entry_recursive, entry_other}
use Rattle.ev_data.proofs.equations.case_in_entry.Goals as goal

pub case_of-requires-clause-few_args : goal.case_of-requires-clause-few_args
case_of-requires-clause-few_args c = few_args c.args.env.now c.requires.well_formed c.args.op.now _ _ _ _ (ap (λ e. Some e) (sym c.in-Recursive.is) ∙ c.requires.declares) c.if-eq.ensures

pub returns-then-eq-clause-found : goal.returns-then-eq-clause-found
returns-then-eq-clause-found c =
    some_weaker c.case_of.result (λ x e. entry_recursive c.args.env.now c.args.con.now c.args.op.now c.args.entry.now _ _ _ _ c.in-Recursive.is c.if-eq.ensures ∙ e) c.case_of.ensures.found

pub returns-then-eq-clause-none : goal.returns-then-eq-clause-none
returns-then-eq-clause-none c =
    none_weaker c.case_of.result (λ e. entry_recursive c.args.env.now c.args.con.now c.args.op.now c.args.entry.now _ _ _ _ c.in-Recursive.is c.if-eq.ensures ∙ e) c.case_of.ensures.none

pub returns-else-eq-clause-none : goal.returns-else-eq-clause-none
returns-else-eq-clause-none c = entry_other c.args.env.now c.args.con.now c.args.op.now c.args.entry.now _ _ _ _ c.in-Recursive.is c.if-eq.ensures
