use Rattle.std.proofs.Common.{◌≡◌, ◌+◌, ◌*◌, ◌≤◌, ◌++◌}
use Rattle.ev_terms.specs.Measures.{type_size, types_size}
use Rattle.ev_unify.specs.Patterns.{pat_list}
use Rattle.ev_infer.specs.Equations.{patterns_of}
use Rattle.ev_infer.specs.inner.Walks.{pats}
use Rattle.ev_infer.proofs.patterns.+pattern.Given as goal

abbrev pub decreases-pattern_of : goal.decreases-pattern_of
decreases-pattern_of l = 2 * type_size l.ty.now

abbrev pub decreases-patterns_of : goal.decreases-patterns_of
decreases-patterns_of l = 2 * types_size l.list.now + 1

abbrev pub invariant-patterns_of-loop-left : goal.invariant-patterns_of-loop-left
invariant-patterns_of-loop-left l = (l.patterns.items ++ pat_list (patterns_of (pats l.types) l.left) ≡ pat_list (patterns_of (pats l.types) l.list)) × (types_size l.left ≤ types_size l.list)
