use Rattle.std.proofs.Common.{◌∙◌, ap, sym, Some, refl, arith, ◌∷◌, [], subst as transport}
use Rattle.std.proofs.lemmas.Result.{IfOk-weaker}
use Rattle.ev_forms.specs.Forms.{truth}
use Rattle.ev_typing.specs.declared.typing.Sequent.{Sequent}
use Rattle.ev_typing.specs.Sequents.{◌▹◌}
use Rattle.ev_congruence.specs.Settings.{IsBaseContext}
use Rattle.ev_congruence.proofs.Appending.{extended_derivation, extends_twice, concluded_base}
use Rattle.ev_congruence.proofs.Contexts.{context_of, context_widened}
use Rattle.ev_congruence.proofs.Idle.{hyps_fit, goal_fits, witness_base, front_of, hyps_by}
use Rattle.ev_forms.specs.Forms.{vars_above}
use Rattle.ev_congruence.specs.Limits.{TermsAreWithin}
use Rattle.ev_congruence.proofs.Within.{within_by}
use Rattle.ev_congruence.proofs.witnesses.brought_to_witness.Goals as goal

pub with_variable-requires : goal.with_variable-requires
with_variable-requires c =
    let b = concluded_base c.args.env.now c.args.lines.now c.args.premise c.args.at.now c.requires.derivation c.requires.premise in record {
      hyps = hyps_fit c.args.env.now c.args.at.now b c.requires.room;
      goal = goal_fits c.args.env.now c.args.at.now b c.requires.room;
    }

pub len-outer-requires : goal.len-outer-requires
len-outer-requires c = omega (arith, c.requires.room)

pub overflow_cast-outer : goal.overflow_cast-outer
overflow_cast-outer c = omega (arith, c.len-outer.ensures, c.requires.room)

pub lengthened-requires : goal.lengthened-requires
lengthened-requires c =
    let b = concluded_base c.args.env.now c.args.lines.now c.args.premise c.args.at.now c.requires.derivation c.requires.premise in
    let e = c.in_ok-long.ensures ∙ c.in_ok-inner.ensures in record {
      derivation = c.requires.derivation;
      room = omega (arith, c.len-outer.ensures, c.requires.room);
      base = transport (IsBaseContext c.args.env.now) (sym e) (context_widened c.args.env.now c.args.at.now (c.args.ty.now ∷ []) (context_of c.args.env.now c.args.at.now b) (c.requires.proper, tt));
      widened = (c.args.at.now, c.args.ty.now ∷ [], c.requires.premise, sym c.len-outer.ensures, refl, e);
    }

pub weakened-requires : goal.weakened-requires
weakened-requires c =
    let b = concluded_base c.args.env.now c.args.lines.now c.args.premise c.args.at.now c.requires.derivation c.requires.premise in
    let w = witness_base c.args.env.now c.args.at.now c.args.ty.now b c.requires.proper in
    let h = hyps_by c.args.env.now c.args.at.now c.args.ty.now c.in_ok-inner.inner c.in_ok-hyps.hyps c.in_ok-inner.ensures c.in_ok-hyps.ensures w in record {
      derivation = extended_derivation c.args.env.now c.args.lines.now c.lengthened.new.lines c.requires.derivation c.lengthened.ensures.extends;
      premise = c.in_ok-line.ensures.concludes ∙ ap Some c.in_ok-long.ensures;
      more = front_of c.in_ok-inner.inner.hyps c.in_ok-hyps.hyps c.in_ok-hyps.ensures;
      predicates = h.0;
      plain = h.1;
    }

pub returns-clause-concludes : goal.returns-clause-concludes
returns-clause-concludes c =
    IfOk-weaker c.weakened.result _ _ (λ n h.
    h ∙ ap Some (ap (λ H. record { context = c.in_ok-inner.inner.context; hyps = H; goal = c.in_ok-inner.inner.goal }) c.in_ok-hyps.ensures ∙ ap (λ (S : Sequent). S ▹ truth) c.in_ok-inner.ensures)) c.weakened.ensures.concludes

pub returns-clause-extends : goal.returns-clause-extends
returns-clause-extends c = extends_twice c.args.env.now c.args.lines.now c.lengthened.new.lines c.weakened.new.lines c.lengthened.ensures.extends c.weakened.ensures.extends

pub returns-in_err-line-clause-limits : goal.returns-in_err-line-clause-limits
returns-in_err-line-clause-limits c = λ m d s t a h. c.lengthened.ensures.limits m d (within_by m d _ _ (c.in_ok-long.ensures ∙ c.in_ok-inner.ensures) s.0, tt) (transport (λ n. TermsAreWithin m d (vars_above n 1)) (sym c.len-outer.ensures) t) tt h

pub returns-clause-limits : goal.returns-clause-limits
returns-clause-limits c = λ m d s t a h.
    c.weakened.ensures.limits m d (
      within_by m d _ _
          (ap (λ H. record { context = c.in_ok-inner.inner.context; hyps = H; goal = c.in_ok-inner.inner.goal }) c.in_ok-hyps.ensures ∙ ap (λ (S : Sequent). S ▹ truth) c.in_ok-inner.ensures) s.1.0,
      tt,
    ) tt tt
    (c.lengthened.ensures.limits m d (within_by m d _ _ (c.in_ok-long.ensures ∙ c.in_ok-inner.ensures) s.0, tt) (transport (λ n. TermsAreWithin m d (vars_above n 1)) (sym c.len-outer.ensures) t) tt h)
