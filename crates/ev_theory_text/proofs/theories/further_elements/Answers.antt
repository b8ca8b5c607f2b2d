use Rattle.std.proofs.Common.{refl}
use Rattle.ev_theory_text.proofs.TheoryLaws.{another, part_at}
use Rattle.ev_theory_text.proofs.theories.further_elements.Goals as goal

pub loop-part-preserved : goal.loop-part-preserved
loop-part-preserved c = let parts = c.args.parts.now in let n = c.loop-part.part-index in
    another c.args.first parts n (part_at parts n) c.loop-part.elements c.push.new.self c.in_ok-element.element c.loop-part-test.true refl c.loop-part.invariant c.in_ok-element.ensures c.in_ok-push.ensures.ok
