use Rattle.std.proofs.Common.{ap, sym, ◌∙◌, map}
use Rattle.ev_terms.specs.Substitution.{fill, instance}
use Rattle.ev_kernel.proofs.Equations.{apart}
use Rattle.ev_kernel.proofs.Binding.{instance_row, other_hyps}
use Rattle.ev_kernel.proofs.quantifiers.instantiation.Goals as goal

pub returns-then-not-branch-2 : goal.returns-then-not-branch-2
returns-then-not-branch-2 c =
    other_hyps c.args.env.now c.args.premise.now c.args.sequent.now c.args.types.now c.args.terms.now (λ e.
    apart c.in_ok-are_instances.field-0 c.in_ok-are_instances.ensures c.if-not-branch-2.true
    (c.as_slice-hyps.ensures ∙ e ∙ ap (map (λ P. fill (instance P c.args.types.now) c.args.terms.now)) (sym c.as_slice-patterns.ensures)))

pub returns : goal.returns
returns c =
    instance_row c.args.env.now c.args.premise.now c.args.sequent.now c.args.types.now c.args.terms.now c.may_be_put.result (c.in_ok-is_instance.ensures.0 c.if-not-branch.false)
    (sym c.as_slice-hyps.ensures ∙ c.in_ok-are_instances.ensures.0 c.if-not-branch-2.false ∙ ap (map (λ P. fill (instance P c.args.types.now) c.args.terms.now)) c.as_slice-patterns.ensures)
    c.may_be_put.ensures
