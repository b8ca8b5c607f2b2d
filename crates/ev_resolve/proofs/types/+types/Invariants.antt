use Rattle.std.proofs.Common.{◌+◌}
use Rattle.ev_resolve.specs.Resolve.{known_of}
use Rattle.ev_syntax.specs.inner.TypeView.{raw_types}
use Rattle.ev_resolve.proofs.TypeSteps.{weight, weights, MadeFrom}
use Rattle.ev_resolve.proofs.types.+types.Given as goal

abbrev pub decreases-resolve_type : goal.decreases-resolve_type
decreases-resolve_type l = weight l.written.now

abbrev pub decreases-resolve_pow : goal.decreases-resolve_pow
decreases-resolve_pow l = 1 + weight l.member.now

abbrev pub decreases-resolve_prod : goal.decreases-resolve_prod
decreases-resolve_prod l = 1 + (weight l.first.now + weight l.second.now)

abbrev pub decreases-resolve_named : goal.decreases-resolve_named
decreases-resolve_named l = 2 + weights (raw_types l.types.now)

abbrev pub decreases-resolve_types : goal.decreases-resolve_types
decreases-resolve_types l = 1 + weights (raw_types l.types.now)

abbrev pub invariant-resolve_types-types : goal.invariant-resolve_types-types
invariant-resolve_types-types l = MadeFrom l.names.0 (known_of l.names.1) l.types l.left l.list

abbrev pub decreases-resolve_types-types : goal.decreases-resolve_types-types
decreases-resolve_types-types l = l.left
