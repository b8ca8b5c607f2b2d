use Rattle.std.proofs.Common.{◌∙◌, ap, sym, Some, subst as transport}
use Rattle.std.proofs.lemmas.Result.{IfOk-weaker}
use Rattle.ev_terms.specs.Substitution.{shift}
use Rattle.ev_forms.specs.Forms.{truth, exists}
use Rattle.ev_typing.specs.Sequents.{◌⊢◌, ◌▹◌}
use Rattle.ev_typing.specs.BaseSequents.{IsBaseSequent, under}
use Rattle.ev_congruence.specs.Settings.{HasShiftRoom}
use Rattle.ev_congruence.proofs.Appending.{extended_derivation, extends_twice, concluded_base}
use Rattle.ev_congruence.proofs.Idle.{hyps_fit, goal_fits, room_exists, exists_base, witness_base, for_some_row}
use Rattle.std.proofs.Common.{◌≤◌, ◌∷◌}
use Rattle.std.specs.List.{AllByRecursion}
use Rattle.ev_typing.specs.declared.typing.Sequent.{Sequent}
use Rattle.ev_congruence.specs.Limits.{IsWithin}
use Rattle.ev_congruence.specs.Witnesses.{inhabiting}
use Rattle.ev_congruence.proofs.Within.{within_by}
use Rattle.ev_congruence.proofs.witnesses.idle_for_some.Goals as goal

pub idly_bound-requires : goal.idly_bound-requires
idly_bound-requires c =
    goal_fits c.args.env.now c.args.at.now (concluded_base c.args.env.now c.args.lines.now c.args.premise c.args.at.now c.requires.derivation c.requires.premise) (room_exists c.args.at.now c.args.ty.now c.requires.room)

pub for_witness-requires : goal.for_witness-requires
for_witness-requires c =
    let b = concluded_base c.args.env.now c.args.lines.now c.args.premise c.args.at.now c.requires.derivation c.requires.premise in
    let q = transport (IsBaseSequent c.args.env.now) (sym c.in_ok-quantified.ensures) (exists_base c.args.env.now c.args.at.now c.args.ty.now b c.requires.proper) in
    let r = transport HasShiftRoom (sym c.in_ok-quantified.ensures) c.requires.room in record {
      hyps = hyps_fit c.args.env.now c.in_ok-quantified.quantified q r;
      goal = goal_fits c.args.env.now c.in_ok-quantified.quantified q r;
    }

pub brought_to_witness-requires : goal.brought_to_witness-requires
brought_to_witness-requires c = record {
  derivation = c.requires.derivation;
  premise = c.requires.premise;
  proper = c.requires.proper;
  room = room_exists c.args.at.now c.args.ty.now c.requires.room;
}

pub from_one-requires : goal.from_one-requires
from_one-requires c =
    let Q = c.args.at.now ⊢ exists c.args.ty.now (shift c.args.at.now.goal 0 1) in
    let b = concluded_base c.args.env.now c.args.lines.now c.args.premise c.args.at.now c.requires.derivation c.requires.premise in
    let e = c.in_ok-sequent.ensures ∙ ap (λ S. under S c.args.ty.now ▹ truth) c.in_ok-quantified.ensures in record {
      derivation = extended_derivation c.args.env.now c.args.lines.now c.brought_to_witness.new.lines c.requires.derivation c.brought_to_witness.ensures.extends;
      base = transport (IsBaseSequent c.args.env.now) (sym e) (witness_base c.args.env.now Q c.args.ty.now (exists_base c.args.env.now c.args.at.now c.args.ty.now b c.requires.proper) c.requires.proper);
      row = (
        under c.args.at.now c.args.ty.now ▹ truth,
        c.in_ok-inner.ensures.concludes,
        for_some_row c.args.env.now c.args.at.now c.in_ok-sequent.sequent c.args.ty.now _ e c.in_ok-make_var.ensures,
      );
    }

pub witnessed-requires : goal.witnessed-requires
witnessed-requires c =
    let b = concluded_base c.args.env.now c.args.lines.now c.args.premise c.args.at.now c.requires.derivation c.requires.premise in record {
      derivation = extended_derivation c.args.env.now c.args.lines.now c.from_one.new.lines c.requires.derivation
          (extends_twice c.args.env.now c.args.lines.now c.brought_to_witness.new.lines c.from_one.new.lines c.brought_to_witness.ensures.extends c.from_one.ensures.extends);
      base = transport (IsBaseSequent c.args.env.now) (sym c.in_ok-quantified.ensures) (exists_base c.args.env.now c.args.at.now c.args.ty.now b c.requires.proper);
      proper = c.requires.proper;
      premise = c.in_ok-line.ensures.concludes ∙ ap Some c.in_ok-sequent.ensures;
    }

pub returns-clause-concludes : goal.returns-clause-concludes
returns-clause-concludes c = IfOk-weaker c.witnessed.result _ _ (λ n h. h ∙ ap Some c.in_ok-quantified.ensures) c.witnessed.ensures.concludes

pub returns-in_err-line-clause-extends : goal.returns-in_err-line-clause-extends
returns-in_err-line-clause-extends c = extends_twice c.args.env.now c.args.lines.now c.brought_to_witness.new.lines c.from_one.new.lines c.brought_to_witness.ensures.extends c.from_one.ensures.extends

pub returns-clause-extends : goal.returns-clause-extends
returns-clause-extends c =
    extends_twice c.args.env.now c.args.lines.now c.from_one.new.lines c.witnessed.new.lines
    (extends_twice c.args.env.now c.args.lines.now c.brought_to_witness.new.lines c.from_one.new.lines c.brought_to_witness.ensures.extends c.from_one.ensures.extends) c.witnessed.ensures.extends

pub returns-in_err-inner-clause-limits : goal.returns-in_err-inner-clause-limits
returns-in_err-inner-clause-limits c = λ m d s t a h. c.brought_to_witness.ensures.limits m d (s.0, (s.1.0, tt)) t.1 tt h

pub returns-in_err-line-clause-limits : goal.returns-in_err-line-clause-limits
returns-in_err-line-clause-limits c = λ m d s t a h. c.from_one.ensures.limits m d (within_by m d _ _ (c.in_ok-sequent.ensures ∙ ap (λ S. under S c.args.ty.now ▹ truth) c.in_ok-quantified.ensures) s.1.1.0) (transport (λ u. m.of_term u ≤ d) (sym c.in_ok-make_var.ensures) t.0)
    (c.brought_to_witness.ensures.limits m d (s.0, (s.1.0, tt)) t.1 tt h)

pub returns-clause-limits : goal.returns-clause-limits
returns-clause-limits c = λ m d s t a h.
    c.witnessed.ensures.limits m d (transport (λ (S : Sequent). AllByRecursion (IsWithin m d) (S ∷ inhabiting S c.args.ty.now)) (sym c.in_ok-quantified.ensures) s.1.1.1) tt a
    (c.from_one.ensures.limits m d (within_by m d _ _ (c.in_ok-sequent.ensures ∙ ap (λ S. under S c.args.ty.now ▹ truth) c.in_ok-quantified.ensures) s.1.1.0) (transport (λ u. m.of_term u ≤ d) (sym c.in_ok-make_var.ensures) t.0)
    (c.brought_to_witness.ensures.limits m d (s.0, (s.1.0, tt)) t.1 tt h))
