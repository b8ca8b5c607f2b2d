use Rattle.std.proofs.Common.{◌≤◌}
use Rattle.ev_unify.specs.declared.patterns.Pats.{size-Pats}
use Rattle.ev_unify.proofs.+drop_patterns.Given as goal

abbrev pub invariant-patterns::Pats::drop-loop-self : goal.invariant-patterns::Pats::drop-loop-self
invariant-patterns::Pats::drop-loop-self l = size-Pats l.self ≤ size-Pats l.initial.self
