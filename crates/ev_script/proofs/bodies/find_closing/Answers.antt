use Rattle.std.proofs.Common.{sym, ◌∙◌, arith}
use Rattle.ev_script.proofs.LineLaws.{rest_of}
use Rattle.ev_script.proofs.BodyLaws.{body_first, body_none, body_on, body_here, shorter}
use Rattle.ev_script.proofs.bodies.find_closing.Goals as goal

pub lines-init : goal.lines-init
lines-init c = (omega arith, body_first c.args.text.now)

pub returns-then-is_end-clause-body : goal.returns-then-is_end-clause-body
returns-then-is_end-clause-body c =
    body_here c.args.text.now c.lines.at c.line_length-length.result _ (rest_of c.args.text.now c.lines.at) c.lines-test.true c.line_length-length.ensures.value
    (sym c.is_end.ensures ∙ c.if-is_end.true) c.lines.invariant.1

pub returns-then-is_end-clause-within : goal.returns-then-is_end-clause-within
returns-then-is_end-clause-within c =
    (shorter c.args.text.now c.lines.at c.line_length-length.result _ (rest_of c.args.text.now c.lines.at) c.lines-test.true c.line_length-length.ensures.value).1

pub lines-smaller : goal.lines-smaller
lines-smaller c =
    (shorter c.args.text.now c.lines.at c.line_length-length.result _ (rest_of c.args.text.now c.lines.at) c.lines-test.true c.line_length-length.ensures.value).0

pub lines-preserved : goal.lines-preserved
lines-preserved c = (
  (shorter c.args.text.now c.lines.at c.line_length-length.result _ (rest_of c.args.text.now c.lines.at) c.lines-test.true c.line_length-length.ensures.value).1,
  body_on c.args.text.now c.lines.at c.line_length-length.result _ (rest_of c.args.text.now c.lines.at) c.lines-test.true c.line_length-length.ensures.value
      (sym c.is_end.ensures ∙ c.if-is_end.false) c.lines.invariant.1,
)

pub returns-clause-body : goal.returns-clause-body
returns-clause-body c = body_none c.args.text.now c.lines.at (omega (arith, c.lines-test.false)) c.lines.invariant.1
