use Rattle.std.proofs.Common.{◌≤◌, ◌+◌, ◌*◌}
use Rattle.std.specs.Prelude.{Bool}
use Rattle.ev_terms.specs.Measures.{type_size, types_size}
use Rattle.ev_rewrite.specs.declared.slots.Found.{Found}
use Rattle.ev_rewrite.specs.inner.Taken.{TypesTaken}
use Rattle.ev_rewrite.proofs.type_matching.+match_type.Given as goal

abbrev pub decreases-match_type : goal.decreases-match_type
decreases-match_type l = 2 * type_size l.pattern.now

abbrev pub decreases-match_types : goal.decreases-match_types
decreases-match_types l = 2 * types_size l.patterns.now + 1

-- what the rest adds to what is found, the whole adds to what was found
abbrev pub invariant-match_types-loop-left : goal.invariant-match_types-loop-left
invariant-match_types-loop-left l = record {
  smaller : types_size l.left ≤ types_size l.patterns;
  goes_on : (new : Found) (b : Bool) → TypesTaken l.left l.others l.found new b → TypesTaken l.patterns l.list l.initial.found new b;
}
