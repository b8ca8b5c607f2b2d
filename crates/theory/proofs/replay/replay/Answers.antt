use Rattle.std.proofs.Common.{◌+◌, get_or, reverse, drop, ap, arith}
use Rattle.theory.specs.declared.steps.Outcome.TheVariants.{Broken}
use Rattle.theory.specs.declared.steps.Step.TheVariants.{Hyp}
use Rattle.theory.specs.declared.steps.Applied.TheVariants.{Refused}
use Rattle.theory.specs.Steps.{Applies}
use Rattle.theory.proofs.ReadLaws.{none_holds}
use Rattle.theory.proofs.StepLaws.{emptied, no_goal, popped, refused_here, steps_next}
use Rattle.theory.proofs.replay.replay.Goals as goal

pub returns-in_default : goal.returns-in_default
returns-in_default g c =
    let steps = c.args.steps.now in
    let i = c.loop-i.i in
    let empty = emptied c.loop-i.stack.items c.loop-i.stack.len c.pop.result (omega (arith, c.loop-i.stack.ok)) c.pop.ensures.variant c.in_default.not-Some in
    c.loop-i.invariant.goes_on (Broken (i + 1))
    (no_goal c.args.env.now (i + 1) c.loop-i.left (reverse c.loop-i.stack.items) (drop i steps) (drop (i + 1) steps) (get_or steps i Hyp) (ap reverse empty) (steps_next steps i Hyp c.loop-i-test.true))

pub returns-in_default-2 : goal.returns-in_default-2
returns-in_default-2 g c =
    let steps = c.args.steps.now in
    let i = c.loop-i.i in
    let stack = popped c.loop-i.stack.items c.pop.new.self.items c.pop.result c.in-Some.first c.pop.ensures.items c.in-Some.is in
    c.loop-i.invariant.goes_on (Broken (i + 1))
    (refused_here c.args.env.now (i + 1) c.loop-i.left c.in-Some.first (reverse c.pop.new.self.items) (reverse c.loop-i.stack.items) (drop i steps) (drop (i + 1) steps) (get_or steps i Hyp) stack (steps_next steps i Hyp c.loop-i-test.true)
    (none_holds (Applies c.args.env.now c.in-Some.first (get_or steps i Hyp) Refused) c.in_ok-now.field-0 c.in_ok-now.ensures.none c.in_default-2.not-Some))
