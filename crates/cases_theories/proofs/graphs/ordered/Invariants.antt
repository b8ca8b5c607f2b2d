use Rattle.cases_theories.specs.Ordered.{IsOrdered}
use Rattle.cases_theories.proofs.graphs.ordered.Given as goal

abbrev pub invariant-loop-imports : goal.invariant-loop-imports
invariant-loop-imports l = IsOrdered l.copy
