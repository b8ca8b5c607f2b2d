use Rattle.std.proofs.Common.{◌≡◌, ◌+◌, ◌*◌, ◌≤◌, ◌++◌}
use Rattle.ev_terms.specs.Types.{type_list}
use Rattle.ev_unify.specs.Patterns.{values}
use Rattle.ev_unify.proofs.Spread.{pat_size, pats_size}
use Rattle.ev_infer.specs.inner.Bulks.{type_at_unknown}
use Rattle.ev_infer.proofs.solving.+pat_type.Given as goal

abbrev pub decreases-pat_type : goal.decreases-pat_type
decreases-pat_type l = 2 * pat_size l.pat.now

abbrev pub decreases-pat_types : goal.decreases-pat_types
decreases-pat_types l = 2 * pats_size l.list.now + 1

abbrev pub invariant-pat_types-loop-left : goal.invariant-pat_types-loop-left
invariant-pat_types-loop-left l = (l.all.items ++ type_list (values (type_at_unknown l.types) l.left) ≡ type_list (values (type_at_unknown l.types) l.list)) × (pats_size l.left ≤ pats_size l.list)
