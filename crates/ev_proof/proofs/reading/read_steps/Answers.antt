use Rattle.std.proofs.Common.{subst, sym, ◌∙◌}
use Rattle.ev_proof.proofs.BodyLaws.{SoFar, none_yet, line_short, without_blank, with_step, all_steps}
use Rattle.ev_proof.proofs.reading.read_steps.Goals as goal

pub loop-line-init : goal.loop-line-init
loop-line-init c =
    subst (SoFar c.args.body.now c.new-steps.result) (sym (c.into_iter-line-iterator.ensures.into_iter_gives ∙ c.lines_with_terminator-line-items.ensures.value))
    (none_yet c.args.body.now c.new-steps.result c.requires c.new-steps.ensures)

pub read_line-requires : goal.read_line-requires
read_line-requires c = line_short c.args.body.now c.loop-line.steps c.loop-line.line-iterator c.next.new.self c.in-Some.line.now c.in-Some.ensures.steps c.loop-line.invariant

pub loop-line-preserved-in-Continue-branch-2 : goal.loop-line-preserved-in-Continue-branch-2
loop-line-preserved-in-Continue-branch-2 c =
    with_step c.args.body.now c.loop-line.steps c.push.new.self c.loop-line.line-iterator c.next.new.self c.in-Some.line.now c.in_ok-step.step c.in-Some.ensures.steps
    (sym c.are_blanks.ensures ∙ c.if-not-are_blanks.true) c.in_ok-step.ensures c.in_ok-push.ensures.ok c.loop-line.invariant

pub loop-line-preserved : goal.loop-line-preserved
loop-line-preserved c =
    without_blank c.args.body.now c.loop-line.steps c.loop-line.line-iterator c.next.new.self c.in-Some.line.now c.in-Some.ensures.steps
    (sym c.are_blanks.ensures ∙ c.if-not-are_blanks.false) c.loop-line.invariant

pub returns : goal.returns
returns c = all_steps c.args.body.now c.loop-line.steps c.loop-line.line-iterator c.in-None.ensures.steps.0 c.loop-line.invariant
