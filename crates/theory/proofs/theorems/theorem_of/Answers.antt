use Rattle.theory.proofs.ReadLaws.{none_holds}
use Rattle.theory.proofs.ReadingLaws.{theorem_none}
use Rattle.theory.proofs.theorems.theorem_of.Goals as goal

pub returns-in_default-2-clause-none : goal.returns-in_default-2-clause-none
returns-in_default-2-clause-none c =
    theorem_none c.args.line.now c.in-Some.label.now c.in-Some.text.now c.in-Some.ensures (none_holds _ _ c.in_ok-goal.ensures.none c.in_default-2.not-Some)
