use Rattle.std.proofs.Common.{◌≡◌, take, map}
use Rattle.ev_terms.specs.Substitution.{type_inst, type_at}
use Rattle.ev_congruence.proofs.forming.types_at.Given as goal

abbrev pub invariant-loop-ty : goal.invariant-loop-ty
invariant-loop-ty l = l.all ≡ map (type_inst (type_at l.types)) (take l.ty-index l.list)
