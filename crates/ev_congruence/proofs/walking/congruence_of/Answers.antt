use Rattle.std.proofs.Common.{◌≡◌, ◌∙◌, ap, sym, get_or, Some}
use Rattle.std.proofs.lemmas.Result.{IfOk-weaker}
use Rattle.ev_congruence.specs.Growing.{concluded}
use Rattle.ev_congruence.proofs.Appending.{concluded_base}
use Rattle.ev_congruence.proofs.Contexts.{context_of}
use Rattle.ev_congruence.proofs.Whole.{ready_alike, all_settled, first_concluded, beside_first, ready_beside, congruence_is, first_number, ready_by, equates_by}
use Rattle.ev_terms.specs.Substitution.{fill}
use Rattle.ev_congruence.proofs.Within.{between_one, between_beside}
use Rattle.ev_congruence.proofs.walking.congruence_of.Goals as goal

pub sequent_of-requires : goal.sequent_of-requires
sequent_of-requires c =
    let h = ready_alike c.args.env.now c.args.lines.now c.requires.ready.0 c.args.body.now c.args.left.now c.args.right.now c.args.premises.now c.requires.derivation c.requires.ready.1 in
    first_concluded c.args.lines.now c.requires.ready.0 c.args.left.now c.args.right.now c.args.premises.now (get_or c.as_slice-premises.result.now 0 0) h.equated c.requires.some
    (first_number c.as_slice-premises.result.now c.args.premises.now c.as_slice-premises.ensures c.requires.some)

pub congruence_beside-requires : goal.congruence_beside-requires
congruence_beside-requires c =
    let f : concluded c.args.lines.now (get_or c.as_slice-premises.result.now 0 0) ≡ Some c.in_ok-at.at = c.sequent_of.ensures ∙ ap Some (sym c.in_ok-at.ensures) in
    let h = ready_alike c.args.env.now c.args.lines.now c.requires.ready.0 c.args.body.now c.args.left.now c.args.right.now c.args.premises.now c.requires.derivation c.requires.ready.1 in record {
      derivation = c.requires.derivation;
      base = context_of c.args.env.now c.in_ok-at.at (concluded_base c.args.env.now c.args.lines.now (get_or c.as_slice-premises.result.now 0 0) c.in_ok-at.at c.requires.derivation f);
      ready = all_settled c.args.env.now c.args.lines.now c.in_ok-at.at c.args.body.now c.in_ok-try_copy.field-0 c.in_ok-try_copy-2.field-0 c.as_slice-premises.result.now _ c.in_ok-all_some.ensures
          (ready_by c.args.env.now c.args.lines.now c.in_ok-at.at c.args.body.now c.args.left.now c.args.right.now c.in_ok-try_copy.field-0 c.in_ok-try_copy-2.field-0 c.args.premises.now c.as_slice-premises.result.now
          c.in_ok-try_copy.ensures c.in_ok-try_copy-2.ensures c.as_slice-premises.ensures
          (ready_beside c.args.env.now c.args.lines.now c.requires.ready.0 c.in_ok-at.at c.args.body.now c.args.left.now c.args.right.now c.args.premises.now
          (beside_first c.args.lines.now c.requires.ready.0 c.in_ok-at.at c.args.left.now c.args.right.now c.args.premises.now (get_or c.as_slice-premises.result.now 0 0) h.equated c.requires.some
          (first_number c.as_slice-premises.result.now c.args.premises.now c.as_slice-premises.ensures c.requires.some) f)
          h));
    }

pub returns-clause-line : goal.returns-clause-line
returns-clause-line c =
    let f : concluded c.args.lines.now (get_or c.as_slice-premises.result.now 0 0) ≡ Some c.in_ok-at.at = c.sequent_of.ensures ∙ ap Some (sym c.in_ok-at.ensures) in
    IfOk-weaker c.congruence_beside.result _ _ (λ n h.
    congruence_is c.args.env.now c.args.lines.now c.congruence_beside.new.lines c.in_ok-at.at c.args.body.now c.args.left.now c.args.right.now c.args.premises.now (get_or c.as_slice-premises.result.now 0 0) n
    c.requires.derivation c.congruence_beside.ensures.extends c.requires.some (first_number c.as_slice-premises.result.now c.args.premises.now c.as_slice-premises.ensures c.requires.some) f
    (equates_by _ c.in_ok-at.at c.args.body.now c.args.left.now c.args.right.now c.in_ok-try_copy.field-0 c.in_ok-try_copy-2.field-0 n c.in_ok-try_copy.ensures c.in_ok-try_copy-2.ensures h)) c.congruence_beside.ensures.line

pub returns-clause-limits : goal.returns-clause-limits
returns-clause-limits c =
    let f : concluded c.args.lines.now (get_or c.as_slice-premises.result.now 0 0) ≡ Some c.in_ok-at.at = c.sequent_of.ensures ∙ ap Some (sym c.in_ok-at.ensures) in
    λ S q.
    between_beside c.args.env.now c.args.lines.now c.congruence_beside.new.lines S c.in_ok-at.at _ _
    (beside_first c.args.lines.now S c.in_ok-at.at c.args.left.now c.args.right.now c.args.premises.now (get_or c.as_slice-premises.result.now 0 0) q c.requires.some
    (first_number c.as_slice-premises.result.now c.args.premises.now c.as_slice-premises.ensures c.requires.some) f)
    (between_one c.args.env.now c.args.lines.now c.congruence_beside.new.lines c.in_ok-at.at _ _ _ _ (sym (ap (fill c.args.body.now) c.in_ok-try_copy.ensures)) (sym (ap (fill c.args.body.now) c.in_ok-try_copy-2.ensures))
    c.congruence_beside.ensures.limits)
