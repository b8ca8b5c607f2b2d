use Rattle.std.proofs.Common.{refl, ap, ◌∙◌, ◌+◌, ◌++◌, length, drop, arith}
use Rattle.ev_theory_text.specs.Cut.{cut, texts}
use Rattle.ev_theory_text.proofs.CutLaws.{rest_of, part_smaller, part_within, part_ends, part_found, all_found, front_taken, behind_front, parts_behind, none_within, more_within}
use Rattle.ev_theory_text.proofs.cutting.cut.Goals as goal

pub parts-init : goal.parts-init
parts-init c = (
  c.front_length-front.ensures.within,
  behind_front c.args.text.now c.front_length-front.result c.front_length-front.ensures.value,
  ap (λ items. texts items ++ (cut (drop c.front_length-front.result c.args.text.now)).parts) c.new-parts.ensures.items
      ∙ parts_behind c.args.text.now c.front_length-front.result c.front_length-front.ensures.value,
  none_within (length c.args.text.now) c.new-parts.result.items c.new-parts.ensures.items,
)

pub parts-smaller : goal.parts-smaller
parts-smaller c =
    part_smaller c.args.text.now c.parts.at c.line_length-first.result c.front_length.result _ (rest_of c.args.text.now c.parts.at) c.parts-test.true
    c.line_length-first.ensures.value c.front_length.ensures.value c.parts.invariant.1

pub parts-preserved : goal.parts-preserved
parts-preserved c = (
  part_within c.args.text.now c.parts.at c.line_length-first.result c.front_length.result _ (rest_of c.args.text.now c.parts.at) c.parts-test.true
      c.line_length-first.ensures.value c.front_length.ensures.value c.parts.invariant.1,
  part_ends c.args.text.now c.parts.at c.line_length-first.result c.front_length.result _ (rest_of c.args.text.now c.parts.at) c.parts-test.true
      c.line_length-first.ensures.value c.front_length.ensures.value c.parts.invariant.1,
  part_found c.args.text.now c.parts.at c.line_length-first.result c.front_length.result _ (rest_of c.args.text.now c.parts.at) c.parts-test.true
      c.line_length-first.ensures.value c.front_length.ensures.value c.parts.invariant.1 c.parts.parts.items c.push.new.self.items _
      c.in_ok-push.ensures.items refl c.parts.invariant.2,
  more_within c.args.text.now c.parts.at (c.line_length-first.result + c.front_length.result) _ (rest_of c.args.text.now c.parts.at) c.parts.parts.items c.push.new.self.items _
      c.in_ok-push.ensures.items refl c.parts.invariant.3,
)

pub returns-clause-front : goal.returns-clause-front
returns-clause-front c = front_taken c.args.text.now c.front_length-front.result c.front_length-front.ensures.value

pub returns-clause-parts : goal.returns-clause-parts
returns-clause-parts c = all_found c.args.text.now c.parts.at c.parts.parts.items (omega (arith, c.parts-test.false)) c.parts.invariant.2
