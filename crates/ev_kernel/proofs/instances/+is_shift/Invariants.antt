use Rattle.std.proofs.Common.{◌≡◌, ◌*◌, ◌+◌, take, map}
use Rattle.ev_terms.specs.Term.{terms}
use Rattle.ev_terms.specs.Measures.{depth, depths}
use Rattle.ev_terms.specs.Substitution.{shift}
use Rattle.ev_kernel.proofs.instances.+is_shift.Given as goal

abbrev pub decreases-is_shift : goal.decreases-is_shift
decreases-is_shift l = 2 * depth l.other.now

abbrev pub decreases-are_shifts : goal.decreases-are_shifts
decreases-are_shifts l = 2 * depths (terms l.others.now) + 1

abbrev pub invariant-are_shifts-loop-i : goal.invariant-are_shifts-loop-i
invariant-are_shifts-loop-i l = take l.i l.trees ≡ take l.i (map (λ t. shift t l.from l.by) l.others)
