use Rattle.std.proofs.Common.{◌∙◌}
use Rattle.ev_data.proofs.Lists.{some_weaker, none_weaker}
use Rattle.ev_data.proofs.Inductions.{forall_found, forall_none}
use Rattle.ev_data.proofs.induction.find_induction.Goals as goal

pub returns-in-Some-clause-found : goal.returns-in-Some-clause-found
returns-in-Some-clause-found c =
    some_weaker c.induction_over.result (λ i e. forall_found c.args.env.now c.args.conclusion.now c.in-Some.ty.now c.in-Some.predicate.now c.in-Some.ensures.found ∙ e) c.induction_over.ensures.found

pub returns-in-Some-clause-none : goal.returns-in-Some-clause-none
returns-in-Some-clause-none c =
    none_weaker c.induction_over.result (λ e. forall_found c.args.env.now c.args.conclusion.now c.in-Some.ty.now c.in-Some.predicate.now c.in-Some.ensures.found ∙ e) c.induction_over.ensures.none

pub returns-in-None-clause-none : goal.returns-in-None-clause-none
returns-in-None-clause-none c = forall_none c.args.env.now c.args.conclusion.now c.in-None.ensures.none
