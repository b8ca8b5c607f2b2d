use Rattle.std.proofs.Common.{◌+◌, ap, subst, sym, ◌∙◌, arith, drop}
use Rattle.std.specs.List.{AllZip}
use Rattle.theory.specs.inner.Pieces.{texts, piece}
use Rattle.theory.specs.Steps.{IsStep, step_of}
use Rattle.theory.proofs.ReadingLaws.{ReadSoFar, read_on, so_far_next, so_far_end, step_one, lines_are}
use Rattle.theory.proofs.steps.steps_of.Goals as goal

pub loop-line-preserved : goal.loop-line-preserved
loop-line-preserved c =
    let items = c.as_slice-line-items.result.now in
    let is = ap step_of (sym c.trimmed.ensures) ∙ sym c.in-Some.ensures in
    subst (λ done. ReadSoFar IsStep (texts items) done (texts (drop (c.loop-line.line-index + 1) items))) (sym c.in_ok-push-in-Some.ensures.ok)
    (read_on IsStep (texts items) (texts (drop (c.loop-line.line-index + 1) items)) c.loop-line.steps (piece items c.loop-line.line-index) c.in-Some.step is (λ s h. step_one (piece items c.loop-line.line-index) s c.in-Some.step h is)
    (so_far_next IsStep items c.loop-line.steps c.loop-line.line-index c.loop-line-test.true c.loop-line.invariant))

pub returns-clause-found : goal.returns-clause-found
returns-clause-found c =
    subst (λ ls. AllZip IsStep ls c.loop-line.steps) (lines_are c.in_ok-full.full.items c.as_slice-line-items.result.now (texts c.args.lines.now) c.as_slice-line-items.ensures.value c.in_ok-full.ensures)
    (so_far_end IsStep c.as_slice-line-items.result.now c.loop-line.steps c.loop-line.line-index (omega arith) c.loop-line.invariant)
