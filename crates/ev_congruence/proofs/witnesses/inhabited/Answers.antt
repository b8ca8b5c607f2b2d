use Rattle.std.proofs.Common.{◌∙◌, ap, sym, Some, Contains, subst as transport}
use Rattle.std.proofs.lemmas.Result.{IfOk-weaker}
use Rattle.std.specs.List.{AllByRecursion}
use Rattle.ev_terms.specs.Types.{type_list}
use Rattle.ev_typing.specs.declared.typing.Sequent.{Sequent}
use Rattle.ev_typing.specs.Typing.{IsPredicate}
use Rattle.ev_congruence.proofs.Appending.{extended_derivation, extends_twice}
use Rattle.ev_congruence.proofs.Within.{within_by}
use Rattle.ev_congruence.proofs.witnesses.inhabited.Goals as goal

pub weakened-requires : goal.weakened-requires
weakened-requires c = record {
  derivation = extended_derivation c.args.env.now c.args.lines.now c.element_without_hypotheses.new.lines c.requires.derivation c.element_without_hypotheses.ensures.extends;
  premise = c.in_ok-line.ensures.concludes ∙ ap Some (sym c.in_ok-sequent.ensures);
  more = transport (λ (S : Sequent). AllByRecursion (Contains c.args.at.now.hyps) S.hyps) (sym c.in_ok-sequent.ensures) tt;
  predicates = transport (λ (S : Sequent). AllByRecursion (IsPredicate c.args.env.now (type_list S.context)) c.args.at.now.hyps) (sym c.in_ok-sequent.ensures) c.requires.base.hyps;
  plain = c.requires.base.plain;
}

pub returns-clause-concludes : goal.returns-clause-concludes
returns-clause-concludes c =
    IfOk-weaker c.weakened.result _ _ (λ n h. h ∙ ap Some (ap (λ (S : Sequent). record { context = S.context; hyps = c.args.at.now.hyps; goal = S.goal }) c.in_ok-sequent.ensures)) c.weakened.ensures.concludes

pub returns-clause-extends : goal.returns-clause-extends
returns-clause-extends c =
    extends_twice c.args.env.now c.args.lines.now c.element_without_hypotheses.new.lines c.weakened.new.lines c.element_without_hypotheses.ensures.extends c.weakened.ensures.extends

pub returns-in_err-line-clause-limits : goal.returns-in_err-line-clause-limits
returns-in_err-line-clause-limits c = λ m d s t a h. c.element_without_hypotheses.ensures.limits m d (s.0, (s.1.0, tt)) tt a h

pub returns-clause-limits : goal.returns-clause-limits
returns-clause-limits c = λ m d s t a h.
    c.weakened.ensures.limits m d
    (within_by m d _ _ (ap (λ (S : Sequent). record { context = S.context; hyps = c.args.at.now.hyps; goal = S.goal }) c.in_ok-sequent.ensures) s.1.1.0, tt) tt tt
    (c.element_without_hypotheses.ensures.limits m d (s.0, (s.1.0, tt)) tt a h)
