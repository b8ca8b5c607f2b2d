use Rattle.ev_theory_text.proofs.TheoryLaws.{SoFar}
use Rattle.ev_theory_text.proofs.theories.further_elements.Given as goal

abbrev pub invariant-loop-part : goal.invariant-loop-part
invariant-loop-part l = SoFar l.fn.first l.parts l.part-index l.elements
