use Rattle.std.proofs.Common.{◌≡◌, ◌++◌, map, drop}
use Rattle.ev_infer.specs.Equations.{same_pattern}
use Rattle.ev_infer.proofs.patterns.same_patterns.Given as goal

abbrev pub invariant-loop-ty : goal.invariant-loop-ty
invariant-loop-ty l = l.patterns.items ++ map same_pattern (drop l.ty-index l.types) ≡ map same_pattern l.types
