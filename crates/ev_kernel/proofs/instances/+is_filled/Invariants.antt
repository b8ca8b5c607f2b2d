use Rattle.std.proofs.Common.{◌≡◌, ◌*◌, ◌+◌, take, map, reverse}
use Rattle.ev_terms.specs.Term.{terms}
use Rattle.ev_terms.specs.Measures.{depth, depths}
use Rattle.ev_terms.specs.Substitution.{inst, lifts, entry}
use Rattle.ev_kernel.proofs.instances.+is_filled.Given as goal

abbrev pub decreases-is_filled_under : goal.decreases-is_filled_under
decreases-is_filled_under l = 2 * depth l.pattern.now

abbrev pub decreases-are_filled : goal.decreases-are_filled
decreases-are_filled l = 2 * depths (terms l.patterns.now) + 1

abbrev pub invariant-are_filled-loop-i : goal.invariant-are_filled-loop-i
invariant-are_filled-loop-i l = take l.i l.trees ≡ take l.i (map (inst (lifts l.depth (entry (reverse l.arguments)))) l.patterns)
