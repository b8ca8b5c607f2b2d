-- A bound of a set is no smaller than the set.
use Rattle.std.proofs.Common.{arith}
use Rattle.ev_terms.specs.Term.{Term}
use Rattle.ev_terms.proofs.ListLaws.{size-shift, depth-shift}
use Rattle.ev_wd.specs.Limits.{IsSmall}
use Rattle.ev_wd.specs.Demands.{is_bounded}
use Rattle.ev_wd.proofs.Small.{small_by}

pub bounded_small : (P S : Term) → IsSmall (is_bounded P S) → IsSmall S
bounded_small P S h = small_by (is_bounded P S) S (omega (arith, size-shift S 0 2)) (omega (arith, depth-shift S 0 2)) h

pub ruleset bounds = (bounded_small)
