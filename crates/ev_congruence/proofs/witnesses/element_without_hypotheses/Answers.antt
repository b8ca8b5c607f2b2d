use Rattle.std.proofs.Common.{◌∙◌, ap, Some, [], refl}
use Rattle.std.proofs.lemmas.Result.{IfOk-weaker}
use Rattle.ev_terms.specs.declared.types.Ty.{Param}
use Rattle.ev_terms.specs.declared.types.Tys.{Empty}
use Rattle.ev_terms.specs.Types.{more}
use Rattle.ev_forms.specs.Forms.{exists, truth}
use Rattle.ev_congruence.proofs.Appending.{extended_derivation, extends_twice}
use Rattle.ev_congruence.proofs.Contexts.{by_parts}
use Rattle.ev_congruence.proofs.Idle.{element_ready, element_goal, one_proper, no_terms}
use Rattle.std.proofs.Common.{sym, subst as transport}
use Rattle.ev_terms.specs.Types.{type_list}
use Rattle.ev_congruence.specs.Limits.{TermsAreWithin, TypesAreWithin}
use Rattle.ev_congruence.specs.Witnesses.{some_element}
use Rattle.ev_congruence.proofs.Within.{within_by}
use Rattle.ev_congruence.proofs.witnesses.element_without_hypotheses.Goals as goal

pub instantiated-requires : goal.instantiated-requires
instantiated-requires c =
    let e = c.in_ok-types.ensures.is ∙ ap (λ A. more A Empty) c.in_ok-try_copy.ensures in record {
      derivation = extended_derivation c.args.env.now c.args.lines.now c.witness_axiom.new.lines c.requires.derivation c.witness_axiom.ensures.extends;
      proper = one_proper c.args.env.now c.in_ok-types.types c.args.ty.now e c.requires.proper;
      context = c.requires.base.proper;
      plain = no_terms c.args.env.now c.new-terms.result c.new-terms.ensures;
      premise = (record { context = Empty; hyps = []; goal = exists (Param 0) truth }, element_ready c.args.env.now c.witness_axiom.new.lines c.args.at.now.context c.in_ok-types.types c.args.ty.now c.new-terms.result c.in_ok-axiom.axiom e c.new-terms.ensures c.in_ok-axiom.ensures.concludes);
    }

pub returns-clause-concludes : goal.returns-clause-concludes
returns-clause-concludes c =
    IfOk-weaker c.instantiated.result _ _ (λ n h.
    h (record { context = Empty; hyps = []; goal = exists (Param 0) truth }) c.in_ok-axiom.ensures.concludes
    ∙ ap Some (by_parts c.args.at.now.context c.args.at.now.context [] [] _ (exists c.args.ty.now truth) refl refl
    (element_goal c.args.ty.now c.in_ok-types.types c.new-terms.result (c.in_ok-types.ensures.is ∙ ap (λ A. more A Empty) c.in_ok-try_copy.ensures) c.new-terms.ensures))) c.instantiated.ensures.concludes

pub returns-clause-extends : goal.returns-clause-extends
returns-clause-extends c = extends_twice c.args.env.now c.args.lines.now c.witness_axiom.new.lines c.instantiated.new.lines c.witness_axiom.ensures.extends c.instantiated.ensures.extends

pub returns-in_err-axiom-clause-limits : goal.returns-in_err-axiom-clause-limits
returns-in_err-axiom-clause-limits c = λ m d s t a h. c.witness_axiom.ensures.limits m d (s.0, tt) tt tt h

pub returns-clause-limits : goal.returns-clause-limits
returns-clause-limits c = λ m d s t a h.
    c.instantiated.ensures.limits some_element c.in_ok-axiom.ensures.concludes m d (
      within_by m d _ _ (by_parts c.args.at.now.context c.args.at.now.context [] [] _ (exists c.args.ty.now truth) refl refl
          (element_goal c.args.ty.now c.in_ok-types.types c.new-terms.result (c.in_ok-types.ensures.is ∙ ap (λ A. more A Empty) c.in_ok-try_copy.ensures) c.new-terms.ensures)) s.1.0,
      tt,
    )
    (transport (TermsAreWithin m d) (sym c.new-terms.ensures) tt)
    (transport (λ As. TypesAreWithin m d (type_list As)) (sym (c.in_ok-types.ensures.is ∙ ap (λ A. more A Empty) c.in_ok-try_copy.ensures)) a)
    (c.witness_axiom.ensures.limits m d (s.0, tt) tt tt h)
