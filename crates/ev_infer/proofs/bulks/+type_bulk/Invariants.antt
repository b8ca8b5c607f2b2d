use Rattle.std.proofs.Common.{◌≡◌, ◌+◌, ◌*◌, ◌≤◌}
use Rattle.ev_terms.specs.Measures.{type_size, types_size}
use Rattle.ev_infer.specs.inner.Bulks.{beside, types_bulk}
use Rattle.ev_infer.proofs.bulks.+type_bulk.Given as goal

abbrev pub decreases-type_bulk : goal.decreases-type_bulk
decreases-type_bulk l = 2 * type_size l.ty.now

abbrev pub decreases-types_bulk : goal.decreases-types_bulk
decreases-types_bulk l = 2 * types_size l.types.now + 1

abbrev pub invariant-types_bulk-loop-left : goal.invariant-types_bulk-loop-left
invariant-types_bulk-loop-left l = (beside l.all (types_bulk l.left) ≡ types_bulk l.types) × (l.all.size ≤ 340282366920938463463374607431768211455) × (types_size l.left ≤ types_size l.types)
