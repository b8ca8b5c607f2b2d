use Rattle.std.proofs.Common.{ap}
use Rattle.ev_kernel.specs.declared.rules.BaseRule.TheVariants as rule
use Rattle.theory.specs.Steps.{rule_of}
use Rattle.theory.proofs.StepLaws.{closed_answer, both_pushed, left_answer, right_answer, assumed_answer}
use Rattle.theory.proofs.replay.subgoals_of.Goals as goal

pub returns-in-Hyp-clause-found : goal.returns-in-Hyp-clause-found
returns-in-Hyp-clause-found c = closed_answer c.args.env.now c.args.goal.now c.args.step rule.Hyp c.closing.result c.closing.ensures.found (ap rule_of c.in-Hyp.is)

pub returns-in-TrueI-clause-found : goal.returns-in-TrueI-clause-found
returns-in-TrueI-clause-found c = closed_answer c.args.env.now c.args.goal.now c.args.step rule.TrueI c.closing-in-TrueI.result c.closing-in-TrueI.ensures.found (ap rule_of c.in-TrueI.is)

pub returns-in_ok-push-in-Some-2-clause-found : goal.returns-in_ok-push-in-Some-2-clause-found
returns-in_ok-push-in-Some-2-clause-found c =
    both_pushed c.args.env.now c.args.goal.now c.args.step c.in-Some.left.now c.in-Some.right.now c.new-goals.result c.push.new.self c.push-in-Some.new.self c.in_ok-with_goal-in-Some.field-0 c.in_ok-with_goal-in-Some-2.field-0
    c.new-goals.ensures c.in_ok-push-in-Some.ensures.ok c.in_ok-push-in-Some-2.ensures.ok c.in_ok-with_goal-in-Some.ensures c.in_ok-with_goal-in-Some-2.ensures c.in-Some.ensures.found c.in-AndI.is

pub returns-in_ok-with_goal-in-Some-joined_parts-clause-found : goal.returns-in_ok-with_goal-in-Some-joined_parts-clause-found
returns-in_ok-with_goal-in-Some-joined_parts-clause-found c =
    left_answer c.args.env.now c.args.goal.now c.args.step c.in-Some-joined_parts.left.now c.in-Some-joined_parts.field-0-1.now c.in_ok-with_goal-in-Some-joined_parts.field-0 c.single.result
    c.single.ensures c.in-Some-joined_parts.ensures.found c.in_ok-with_goal-in-Some-joined_parts.ensures c.in-OrI1.is

pub returns-in_ok-with_goal-in-Some-joined_parts-2-clause-found : goal.returns-in_ok-with_goal-in-Some-joined_parts-2-clause-found
returns-in_ok-with_goal-in-Some-joined_parts-2-clause-found c =
    right_answer c.args.env.now c.args.goal.now c.args.step c.in-Some-joined_parts-2.field-0-0.now c.in-Some-joined_parts-2.right.now c.in_ok-with_goal-in-Some-joined_parts-2.field-0 c.single-in-Some-joined_parts-2.result
    c.single-in-Some-joined_parts-2.ensures c.in-Some-joined_parts-2.ensures.found c.in_ok-with_goal-in-Some-joined_parts-2.ensures c.in-OrI2.is

pub returns-in_ok-assuming-in-Some-joined_parts-3-clause-found : goal.returns-in_ok-assuming-in-Some-joined_parts-3-clause-found
returns-in_ok-assuming-in-Some-joined_parts-3-clause-found c =
    assumed_answer c.args.env.now c.args.goal.now c.args.step c.in-Some-joined_parts-3.left.now c.in-Some-joined_parts-3.right.now c.in_ok-assuming-in-Some-joined_parts-3.field-0 c.single-in-Some-joined_parts-3.result
    c.single-in-Some-joined_parts-3.ensures c.in-Some-joined_parts-3.ensures.found c.in_ok-assuming-in-Some-joined_parts-3.ensures c.in-ImpI.is
