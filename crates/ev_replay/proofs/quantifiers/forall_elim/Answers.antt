use Rattle.std.proofs.Common.{subst}
use Rattle.ev_replay.specs.Reading.{ReadsFormula, ReadsTerm}
use Rattle.ev_replay.specs.inner.Finding.{Only}
use Rattle.ev_replay.proofs.Quantified.{at_forall, no_forall_term, no_formula}
use Rattle.ev_replay.proofs.quantifiers.forall_elim.Goals as goal

pub returns-in-Some-2 : goal.returns-in-Some-2
returns-in-Some-2 c =
    let S = c.args.goal.now in
    at_forall c.args.scope.now.env c.args.scope.now.params S c.args.raw.now c.args.raw_term.now c.in-Some.formula c.in-Some-bound_parts.ty.now c.in-Some-bound_parts.body.now c.in-Some-2.term c.at_term.result
    (subst (Only (ReadsFormula c.args.scope.now.env c.args.scope.now.params S c.args.raw.now)) c.in-Some.is c.in_ok-formula.ensures) c.in-Some-bound_parts.ensures.found
    (subst (Only (ReadsTerm c.args.scope.now.env c.args.scope.now.params S c.in-Some-bound_parts.ty.now c.args.raw_term.now)) c.in-Some-2.is c.in_ok-term-in-Some-bound_parts.ensures)
    c.at_term.ensures

pub returns-in-Some-bound_parts : goal.returns-in-Some-bound_parts
returns-in-Some-bound_parts c =
    let S = c.args.goal.now in
    no_forall_term c.args.scope.now.env c.args.scope.now.params S c.args.raw.now c.args.raw_term.now c.in-Some.formula c.in-Some-bound_parts.ty.now c.in-Some-bound_parts.body.now
    (subst (Only (ReadsFormula c.args.scope.now.env c.args.scope.now.params S c.args.raw.now)) c.in-Some.is c.in_ok-formula.ensures) c.in-Some-bound_parts.ensures.found
    (subst (Only (ReadsTerm c.args.scope.now.env c.args.scope.now.params S c.in-Some-bound_parts.ty.now c.args.raw_term.now)) c.in-None-2.is c.in_ok-term-in-Some-bound_parts.ensures)

pub returns : goal.returns
returns c =
    no_formula c.args.scope.now.env c.args.scope.now.params c.args.goal.now c.args.raw.now c.args.raw_term.now
    (subst (Only (ReadsFormula c.args.scope.now.env c.args.scope.now.params c.args.goal.now c.args.raw.now)) c.in-None.is c.in_ok-formula.ensures)
