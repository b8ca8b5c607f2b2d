use Rattle.std.proofs.Common.{◌∙◌, ap, sym, Some, subst as transport}
use Rattle.std.proofs.lemmas.Result.{IfOk-weaker}
use Rattle.ev_forms.specs.Forms.{truth, exists}
use Rattle.ev_typing.specs.Sequents.{◌⊢◌, ◌▹◌}
use Rattle.ev_typing.specs.BaseSequents.{IsBaseSequent, under}
use Rattle.ev_congruence.proofs.Appending.{extended_derivation, extends_twice, concluded_stays}
use Rattle.ev_congruence.proofs.Contexts.{context_of}
use Rattle.ev_congruence.proofs.Idle.{witness_row}
use Rattle.ev_kernel.specs.declared.rules.BaseRule.TheVariants.{ExE}
use Rattle.ev_congruence.proofs.Within.{keep_simple}
use Rattle.ev_congruence.proofs.witnesses.witnessed.Goals as goal

pub inhabited-requires : goal.inhabited-requires
inhabited-requires c = record { derivation = c.requires.derivation; base = context_of c.args.env.now c.args.at.now c.requires.base; proper = c.requires.proper }

pub from_two-requires : goal.from_two-requires
from_two-requires c = record {
  derivation = extended_derivation c.args.env.now c.args.lines.now c.inhabited.new.lines c.requires.derivation c.inhabited.ensures.extends;
  base = transport (IsBaseSequent c.args.env.now) (sym c.in_ok-sequent.ensures) c.requires.base;
  row = (
    c.args.at.now ⊢ exists c.args.ty.now truth,
    under c.args.at.now c.args.ty.now ▹ truth,
    c.in_ok-element.ensures.concludes,
    concluded_stays c.args.env.now c.args.lines.now c.inhabited.new.lines c.args.premise (under c.args.at.now c.args.ty.now ▹ truth) c.inhabited.ensures.extends c.requires.premise,
    witness_row c.args.env.now c.args.at.now c.in_ok-sequent.sequent c.args.ty.now c.in_ok-sequent.ensures,
  );
}

pub returns-clause-concludes : goal.returns-clause-concludes
returns-clause-concludes c = IfOk-weaker c.from_two.result _ _ (λ n h. h ∙ ap Some c.in_ok-sequent.ensures) c.from_two.ensures.concludes

pub returns-clause-extends : goal.returns-clause-extends
returns-clause-extends c = extends_twice c.args.env.now c.args.lines.now c.inhabited.new.lines c.from_two.new.lines c.inhabited.ensures.extends c.from_two.ensures.extends

pub returns-in_err-element-clause-limits : goal.returns-in_err-element-clause-limits
returns-in_err-element-clause-limits c = λ m d s t a h. c.inhabited.ensures.limits m d s.1 tt a h

pub returns-clause-limits : goal.returns-clause-limits
returns-clause-limits c = λ m d s t a h.
    keep_simple _ _ c.args.at.now c.in_ok-sequent.sequent ExE c.in_ok-sequent.ensures (λ m d. tt) c.from_two.ensures.limits m d (s.0, tt) tt tt (c.inhabited.ensures.limits m d s.1 tt a h)
