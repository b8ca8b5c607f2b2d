use Rattle.std.proofs.Common.{◌≤◌}
use Rattle.ev_terms.specs.declared.types.Tys.{size-Tys}
use Rattle.ev_terms.proofs.+drop_types.Given as goal

abbrev pub invariant-types::Tys::drop-loop-self : goal.invariant-types::Tys::drop-loop-self
invariant-types::Tys::drop-loop-self l = size-Tys l.self ≤ size-Tys l.initial.self
