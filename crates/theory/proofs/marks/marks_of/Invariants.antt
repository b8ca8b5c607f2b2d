use Rattle.std.proofs.Common.{length}
use Rattle.theory.proofs.MarkLaws.{Leads}
use Rattle.theory.proofs.marks.marks_of.Given as goal

abbrev pub invariant-loop-rest : goal.invariant-loop-rest
invariant-loop-rest l = Leads l.text l.marks.items l.rest

abbrev pub decreases-loop-rest : goal.decreases-loop-rest
decreases-loop-rest l = length l.rest
