use Rattle.std.proofs.Common.{[], ◌∷◌, ◌++◌, ap, sym, ◌∙◌, map}
use Rattle.ev_terms.specs.Substitution.{shift}
use Rattle.ev_typing.specs.Sequents.{◌▹◌}
use Rattle.ev_typing.specs.BaseSequents.{under}
use Rattle.ev_kernel.proofs.Equations.{apart}
use Rattle.ev_kernel.proofs.Binding.{by_parts, other_context, other_hyps_of}
use Rattle.ev_kernel.proofs.contexts.assumes_under.Goals as goal

pub returns-then-not-extends : goal.returns-then-not-extends
returns-then-not-extends c =
    other_context c.args.sequent.now (under c.args.other.now c.args.ty.now ▹ c.args.hyp.now) (apart c.extends.result c.extends.ensures c.if-not-extends.true)

pub returns-then-not-are_shifted_and : goal.returns-then-not-are_shifted_and
returns-then-not-are_shifted_and c =
    other_hyps_of c.args.sequent.now (under c.args.other.now c.args.ty.now ▹ c.args.hyp.now) (λ y.
    apart c.are_shifted_and.result c.are_shifted_and.ensures c.if-not-are_shifted_and.true
    (c.as_slice.ensures ∙ y ∙ ap (λ ts. map (λ P. shift P 0 1) ts ++ c.args.hyp.now ∷ []) (sym c.as_slice-2.ensures)))

pub returns : goal.returns
returns c =
    by_parts c.args.sequent.now (under c.args.other.now c.args.ty.now ▹ c.args.hyp.now) c.is_shift.result (c.extends.ensures.0 c.if-not-extends.false)
    (sym c.as_slice.ensures ∙ c.are_shifted_and.ensures.0 c.if-not-are_shifted_and.false ∙ ap (λ ts. map (λ P. shift P 0 1) ts ++ c.args.hyp.now ∷ []) c.as_slice-2.ensures)
    c.is_shift.ensures
