use Rattle.std.proofs.Common.{◌≡◌, ◌++◌, length}
use Rattle.ev_unify.specs.Patterns.{pat_list}
use Rattle.ev_infer.proofs.patterns.listed.Given as goal

abbrev pub invariant-loop-last : goal.invariant-loop-last
invariant-loop-last l = l.patterns.items ++ pat_list l.list ≡ l.fn.patterns.items

abbrev pub decreases-loop-last : goal.decreases-loop-last
decreases-loop-last l = length l.patterns.items
