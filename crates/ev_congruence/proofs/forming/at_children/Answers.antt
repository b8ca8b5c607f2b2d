use Rattle.std.proofs.Common.{◌∙◌, ◌++◌, ◌∷◌, [], ap, map}
use Rattle.ev_terms.specs.Substitution.{shift}
use Rattle.ev_terms.specs.Types.{type_list}
use Rattle.ev_congruence.proofs.Contexts.{inner_none, inner_untyped, inner_one}
use Rattle.ev_congruence.proofs.forming.at_children.Goals as goal

pub returns-then-binds-eq0 : goal.returns-then-binds-eq0
returns-then-binds-eq0 c =
    inner_none c.args.sequent.now c.args.sym.now c.args.types.now c.in_ok-context.context c.in_ok-hyps.hyps c.in_ok-goal.goal c.binds.result c.binds.ensures c.if-binds-eq0.true
    c.in_ok-context.ensures c.in_ok-hyps.ensures c.in_ok-goal.ensures

pub returns-in_ok-hyps-in-None : goal.returns-in_ok-hyps-in-None
returns-in_ok-hyps-in-None c =
    inner_untyped c.args.sequent.now c.args.sym.now c.args.types.now c.in_ok-context.context c.in_ok-hyps-in-None.hyps c.in_ok-goal.goal c.in-None.ensures
    c.in_ok-context.ensures c.in_ok-hyps-in-None.ensures c.in_ok-goal.ensures

pub returns-in_ok-hyps-in-Some : goal.returns-in_ok-hyps-in-Some
returns-in_ok-hyps-in-Some c =
    inner_one c.args.sequent.now c.args.sym.now c.args.types.now c.push.new.self c.in-Some.ty.now c.in_ok-try_copy-in-Some.field-0 c.in_ok-hyps-in-Some.hyps c.in_ok-goal.goal c.binds.result c.binds.ensures
    c.if-binds-eq0.false c.in-Some.ensures c.in_ok-try_copy-in-Some.ensures
    (c.in_ok-push-in-Some.ensures.ok ∙ ap (λ C. type_list C ++ c.in_ok-try_copy-in-Some.field-0 ∷ []) c.in_ok-context.ensures)
    (c.in_ok-hyps-in-Some.ensures ∙ ap (map (λ t. shift t 0 1)) c.as_slice.ensures) c.in_ok-goal.ensures
