use Rattle.std.proofs.Common.{◌≡◌, take, map}
use Rattle.ev_terms.specs.Substitution.{fill, instance}
use Rattle.ev_kernel.proofs.quantifiers.are_instances.Given as goal

abbrev pub invariant-loop-i : goal.invariant-loop-i
invariant-loop-i l = take l.i l.trees ≡ take l.i (map (λ P. fill (instance P l.types) l.terms) l.patterns)
