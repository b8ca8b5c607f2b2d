use Rattle.std.proofs.Common.{rules, ◌≡◌, Some, IfSome, subst as transport}
use Rattle.ev_terms.specs.Types.{type_list}
use Rattle.ev_forms.specs.Forms.{equation}
use Rattle.ev_typing.specs.Sequents.{◌⊢◌}
use Rattle.ev_congruence.specs.Growing.{concluded}
use Rattle.ev_congruence.proofs.Appending.{extended_derivation, extends_twice}
use Rattle.ev_congruence.proofs.Whole.{equated_more}
use Rattle.cases_congruence.proofs.premises.+with_all.Goals as goal

pub with_all-requires : goal.with_all-requires
with_all-requires t c = (
  search (rules, c.in-len1-up.len_at_least, c.decreases),
  (
    extended_derivation c.args.env.now c.args.lines.now c.premise.new.lines c.requires.derivation c.premise.ensures.extends,
    equated_more c.args.env.now c.args.lines.now c.premise.new.lines c.args.at.now (type_list c.args.premises.types) _ c.args.premises.left _ c.args.premises.right _ c.args.premises.numbers _
        c.first-item.result.ty c.first-item.result.left c.first-item.result.right c.in-Some.number c.premise.ensures.extends c.requires.equated
        (transport (λ o. IfSome o (λ n. concluded c.premise.new.lines n ≡ Some (c.args.at.now ⊢ equation c.first-item.result.ty c.first-item.result.left c.first-item.result.right))) c.in-Some.is
        c.in_ok-number-in-len1-up.ensures.found)
        c.in_ok-more-in-Some.ensures.types c.in_ok-more-in-Some.ensures.left c.in_ok-more-in-Some.ensures.right c.in_ok-more-in-Some.ensures.numbers,
  ),
)

pub returns-in_ok-more-in-Some-clause-extends : goal.returns-in_ok-more-in-Some-clause-extends
returns-in_ok-more-in-Some-clause-extends t c = extends_twice c.args.env.now c.args.lines.now c.premise.new.lines c.with_all.new.lines c.premise.ensures.extends c.with_all.ensures.extends
