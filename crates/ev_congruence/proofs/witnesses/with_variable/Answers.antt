use Rattle.std.proofs.Common.{◌∙◌, ap, ◌++◌, ◌∷◌, [], map}
use Rattle.ev_terms.specs.Types.{type_list}
use Rattle.ev_terms.specs.Substitution.{shift}
use Rattle.ev_typing.specs.TypeLists.{types}
use Rattle.ev_congruence.proofs.Contexts.{by_parts}
use Rattle.ev_congruence.proofs.Idle.{pushed_context}
use Rattle.ev_congruence.proofs.witnesses.with_variable.Goals as goal

pub returns : goal.returns
returns c =
    by_parts c.push.new.self (types (type_list c.args.at.now.context ++ c.args.ty.now ∷ [])) c.in_ok-hyps.hyps (map (λ P. shift P 0 1) c.args.at.now.hyps) c.in_ok-goal.goal (shift c.args.at.now.goal 0 1)
    (pushed_context c.in_ok-context.context c.args.at.now.context c.push.new.self c.in_ok-try_copy.field-0 c.args.ty.now c.in_ok-context.ensures c.in_ok-try_copy.ensures c.in_ok-push.ensures.ok)
    (c.in_ok-hyps.ensures ∙ ap (map (λ t. shift t 0 1)) c.as_slice.ensures) c.in_ok-goal.ensures
