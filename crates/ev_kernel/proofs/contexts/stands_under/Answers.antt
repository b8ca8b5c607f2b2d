use Rattle.std.proofs.Common.{ap, sym, ◌∙◌, map}
use Rattle.ev_terms.specs.Substitution.{shift}
use Rattle.ev_typing.specs.BaseSequents.{under}
use Rattle.ev_kernel.proofs.Congruence.{under_parts}
use Rattle.ev_kernel.proofs.contexts.stands_under.Goals as goal

pub returns-then-extends : goal.returns-then-extends
returns-then-extends c =
    under_parts c.args.sequent.now (under c.args.other.now c.args.ty.now) c.are_shifted.result (c.extends.ensures.0 c.if-extends.true) (
      λ y. sym c.as_slice.ensures ∙ c.are_shifted.ensures.0 y ∙ ap (map (λ P. shift P 0 1)) c.as_slice-then-extends.ensures,
      λ y. c.are_shifted.ensures.1 (c.as_slice.ensures ∙ y ∙ ap (map (λ P. shift P 0 1)) (sym c.as_slice-then-extends.ensures)),
    )
