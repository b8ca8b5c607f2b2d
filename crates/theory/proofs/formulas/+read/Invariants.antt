use Rattle.std.proofs.Common.{◌*◌, ◌+◌, ◌-◌, ◌<◌, ◌≤◌, drop, length}
use Rattle.ev_terms.specs.Measures.{depth}
use Rattle.theory.specs.Formulas.{Literal}
use Rattle.theory.proofs.ReadLaws.{Climbs}
use Rattle.theory.proofs.formulas.+read.Given as goal

abbrev pub decreases-read : goal.decreases-read
decreases-read l = 8 * l.levels + 7

abbrev pub decreases-primary : goal.decreases-primary
decreases-primary l = 8 * l.levels + 6

abbrev pub decreases-extend : goal.decreases-extend
decreases-extend l = 8 * l.levels + 6

abbrev pub decreases-predicate : goal.decreases-predicate
decreases-predicate l = 8 * l.levels + 5

abbrev pub decreases-conjunction : goal.decreases-conjunction
decreases-conjunction l = 8 * l.levels + 4

abbrev pub decreases-climb : goal.decreases-climb
decreases-climb l = 8 * l.levels + 3

abbrev pub invariant-climb-chain : goal.invariant-climb-chain
invariant-climb-chain l = record {
  within : l.found.end ≤ length l.marks;
  shallow : depth l.found.term ≤ l.levels;
  climbs : Climbs l.connective l.fn.first.term (drop l.fn.first.end l.marks) l.found.term (drop l.found.end l.marks);
  further : l.fn.first.end ≤ l.found.end;
}

abbrev pub decreases-climb-chain : goal.decreases-climb-chain
decreases-climb-chain l = length l.marks - l.found.end

abbrev pub invariant-read-closing : goal.invariant-read-closing
invariant-read-closing l = record {
  within : l.found.end ≤ length l.marks;
  shallow : depth l.found.term ≤ l.levels;
  literal : Literal l.found.term (drop (l.from + l.open) l.marks) (drop l.found.end l.marks);
  further : l.from < l.found.end;
  few : l.open ≤ l.opens;
}

abbrev pub decreases-read-closing : goal.decreases-read-closing
decreases-read-closing l = l.open
