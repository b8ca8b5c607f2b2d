use Rattle.std.proofs.Common.{◌≡◌, ◌+◌, ◌*◌, ◌≤◌}
use Rattle.ev_unify.proofs.Spread.{pat_size, pats_size}
use Rattle.ev_infer.specs.inner.Bulks.{beside, pats_bulk, bulk_at}
use Rattle.ev_infer.proofs.bulks.+pat_bulk.Given as goal

abbrev pub decreases-pat_bulk : goal.decreases-pat_bulk
decreases-pat_bulk l = 2 * pat_size l.pat.now

abbrev pub decreases-pats_bulk : goal.decreases-pats_bulk
decreases-pats_bulk l = 2 * pats_size l.list.now + 1

abbrev pub invariant-pats_bulk-loop-left : goal.invariant-pats_bulk-loop-left
invariant-pats_bulk-loop-left l =
    (beside l.all (pats_bulk (bulk_at l.bulks) l.left) ≡ pats_bulk (bulk_at l.bulks) l.list) × (l.all.size ≤ 340282366920938463463374607431768211455) × (pats_size l.left ≤ pats_size l.list)
