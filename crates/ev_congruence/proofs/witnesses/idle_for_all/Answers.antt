use Rattle.std.proofs.Common.{◌∙◌, ap, sym, Some, subst as transport}
use Rattle.ev_terms.specs.declared.types.Ty.{Prop}
use Rattle.ev_terms.specs.Types.{type_list}
use Rattle.ev_terms.specs.Substitution.{shift}
use Rattle.ev_forms.specs.Forms.{truth, forall}
use Rattle.ev_typing.specs.Sequents.{◌⊢◌, ◌▹◌}
use Rattle.ev_typing.specs.BaseSequents.{IsBaseSequent, under}
use Rattle.ev_congruence.specs.Settings.{HasShiftRoom}
use Rattle.ev_congruence.proofs.Appending.{extended_derivation, extends_twice, concluded_base}
use Rattle.ev_congruence.proofs.Idle.{all_proper, hyps_fit, goal_fits, room_forall, witness_base, for_all_row}
use Rattle.std.proofs.Common.{◌≤◌, length}
use Rattle.ev_forms.specs.Forms.{vars_above}
use Rattle.ev_typing.specs.declared.typing.Sequent.{Sequent}
use Rattle.ev_congruence.specs.Limits.{TermsAreWithin}
use Rattle.ev_congruence.proofs.Within.{within_by}
use Rattle.ev_congruence.proofs.witnesses.idle_for_all.Goals as goal

pub idly_bound-requires : goal.idly_bound-requires
idly_bound-requires c = goal_fits c.args.env.now c.args.at.now c.requires.base (room_forall c.args.at.now c.args.ty.now c.requires.room)

pub for_witness-requires : goal.for_witness-requires
for_witness-requires c =
    let r = room_forall c.args.at.now c.args.ty.now c.requires.room in record {
      hyps = hyps_fit c.args.env.now c.args.at.now c.requires.base r;
      goal = goal_fits c.args.env.now c.args.at.now c.requires.base r;
    }

pub brought_to_witness-requires : goal.brought_to_witness-requires
brought_to_witness-requires c =
    let Q = c.args.at.now ⊢ forall c.args.ty.now (shift c.args.at.now.goal 0 1) in
    let b = concluded_base c.args.env.now c.args.lines.now c.args.premise Q c.requires.derivation c.requires.premise in record {
      derivation = c.requires.derivation;
      premise = c.requires.premise ∙ ap Some (sym c.in_ok-quantified.ensures);
      proper = all_proper c.args.env.now (type_list c.args.at.now.context) c.args.ty.now (shift c.args.at.now.goal 0 1) Prop b.typed.goal;
      room = transport HasShiftRoom (sym c.in_ok-quantified.ensures) c.requires.room;
    }

pub from_one-requires : goal.from_one-requires
from_one-requires c =
    let Q = c.args.at.now ⊢ forall c.args.ty.now (shift c.args.at.now.goal 0 1) in
    let b = concluded_base c.args.env.now c.args.lines.now c.args.premise Q c.requires.derivation c.requires.premise in record {
      derivation = extended_derivation c.args.env.now c.args.lines.now c.brought_to_witness.new.lines c.requires.derivation c.brought_to_witness.ensures.extends;
      base = transport (IsBaseSequent c.args.env.now) (sym c.in_ok-sequent.ensures) (witness_base c.args.env.now c.args.at.now c.args.ty.now c.requires.base (all_proper c.args.env.now (type_list c.args.at.now.context) c.args.ty.now (shift c.args.at.now.goal 0 1) Prop b.typed.goal));
      row = (
        under Q c.args.ty.now ▹ truth,
        c.in_ok-inner.ensures.concludes ∙ ap (λ S. Some (under S c.args.ty.now ▹ truth)) c.in_ok-quantified.ensures,
        for_all_row c.args.env.now c.args.at.now c.in_ok-sequent.sequent c.args.ty.now _ c.in_ok-sequent.ensures c.in_ok-make_var.ensures,
      );
    }

pub witnessed-requires : goal.witnessed-requires
witnessed-requires c =
    let Q = c.args.at.now ⊢ forall c.args.ty.now (shift c.args.at.now.goal 0 1) in
    let b = concluded_base c.args.env.now c.args.lines.now c.args.premise Q c.requires.derivation c.requires.premise in record {
      derivation = extended_derivation c.args.env.now c.args.lines.now c.from_one.new.lines c.requires.derivation
          (extends_twice c.args.env.now c.args.lines.now c.brought_to_witness.new.lines c.from_one.new.lines c.brought_to_witness.ensures.extends c.from_one.ensures.extends);
      base = c.requires.base;
      proper = all_proper c.args.env.now (type_list c.args.at.now.context) c.args.ty.now (shift c.args.at.now.goal 0 1) Prop b.typed.goal;
      premise = c.in_ok-line.ensures.concludes ∙ ap Some c.in_ok-sequent.ensures;
    }

pub returns-in_err-line-clause-extends : goal.returns-in_err-line-clause-extends
returns-in_err-line-clause-extends c = extends_twice c.args.env.now c.args.lines.now c.brought_to_witness.new.lines c.from_one.new.lines c.brought_to_witness.ensures.extends c.from_one.ensures.extends

pub returns-clause-extends : goal.returns-clause-extends
returns-clause-extends c =
    extends_twice c.args.env.now c.args.lines.now c.from_one.new.lines c.witnessed.new.lines
    (extends_twice c.args.env.now c.args.lines.now c.brought_to_witness.new.lines c.from_one.new.lines c.brought_to_witness.ensures.extends c.from_one.ensures.extends) c.witnessed.ensures.extends

pub returns-in_err-inner-clause-limits : goal.returns-in_err-inner-clause-limits
returns-in_err-inner-clause-limits c = λ m d s t a h. c.brought_to_witness.ensures.limits m d
    (within_by m d _ _ (ap (λ S. under S c.args.ty.now) c.in_ok-quantified.ensures) s.0, (within_by m d _ _ (ap (λ S. under S c.args.ty.now ▹ truth) c.in_ok-quantified.ensures) s.1.0, tt))
    (transport (λ (S : Sequent). TermsAreWithin m d (vars_above (length (type_list S.context)) 1)) (sym c.in_ok-quantified.ensures) t.1) tt h

pub returns-in_err-line-clause-limits : goal.returns-in_err-line-clause-limits
returns-in_err-line-clause-limits c = λ m d s t a h. c.from_one.ensures.limits m d (within_by m d _ _ c.in_ok-sequent.ensures s.1.1.0) (transport (λ u. m.of_term u ≤ d) (sym c.in_ok-make_var.ensures) t.0)
    (c.brought_to_witness.ensures.limits m d
    (within_by m d _ _ (ap (λ S. under S c.args.ty.now) c.in_ok-quantified.ensures) s.0, (within_by m d _ _ (ap (λ S. under S c.args.ty.now ▹ truth) c.in_ok-quantified.ensures) s.1.0, tt))
    (transport (λ (S : Sequent). TermsAreWithin m d (vars_above (length (type_list S.context)) 1)) (sym c.in_ok-quantified.ensures) t.1) tt h)

pub returns-clause-limits : goal.returns-clause-limits
returns-clause-limits c = λ m d s t a h.
    c.witnessed.ensures.limits m d s.1.1.1 tt a
    (c.from_one.ensures.limits m d (within_by m d _ _ c.in_ok-sequent.ensures s.1.1.0) (transport (λ u. m.of_term u ≤ d) (sym c.in_ok-make_var.ensures) t.0)
    (c.brought_to_witness.ensures.limits m d
    (within_by m d _ _ (ap (λ S. under S c.args.ty.now) c.in_ok-quantified.ensures) s.0, (within_by m d _ _ (ap (λ S. under S c.args.ty.now ▹ truth) c.in_ok-quantified.ensures) s.1.0, tt))
    (transport (λ (S : Sequent). TermsAreWithin m d (vars_above (length (type_list S.context)) 1)) (sym c.in_ok-quantified.ensures) t.1) tt h))
