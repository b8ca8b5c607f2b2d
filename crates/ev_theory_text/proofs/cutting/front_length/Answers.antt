use Rattle.std.proofs.Common.{sym, ◌∙◌, arith}
use Rattle.ev_theory_text.proofs.CutLaws.{rest_of, shorter, goes_on, stops, ends}
use Rattle.ev_theory_text.proofs.cutting.front_length.Goals as goal

pub returns-then-begins_element-clause-value : goal.returns-then-begins_element-clause-value
returns-then-begins_element-clause-value c =
    stops c.args.text.now c.lines.at c.line_length-length.result _ (rest_of c.args.text.now c.lines.at) c.lines-test.true c.line_length-length.ensures.value
    (sym c.begins_element.ensures ∙ c.if-begins_element.true) c.lines.invariant.1

pub lines-smaller : goal.lines-smaller
lines-smaller c =
    (shorter c.args.text.now c.lines.at c.line_length-length.result _ (rest_of c.args.text.now c.lines.at) c.lines-test.true c.line_length-length.ensures.value).0

pub lines-preserved : goal.lines-preserved
lines-preserved c = (
  (shorter c.args.text.now c.lines.at c.line_length-length.result _ (rest_of c.args.text.now c.lines.at) c.lines-test.true c.line_length-length.ensures.value).1,
  goes_on c.args.text.now c.lines.at c.line_length-length.result _ (rest_of c.args.text.now c.lines.at) c.lines-test.true c.line_length-length.ensures.value
      (sym c.begins_element.ensures ∙ c.if-begins_element.false) c.lines.invariant.1,
)

pub returns-clause-value : goal.returns-clause-value
returns-clause-value c = ends c.args.text.now c.lines.at (omega (arith, c.lines-test.false)) c.lines.invariant.1
