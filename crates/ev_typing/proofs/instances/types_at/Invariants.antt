use Rattle.std.proofs.Common.{◌≡◌, ◌++◌, map}
use Rattle.ev_terms.specs.Types.{type_list}
use Rattle.ev_terms.specs.Substitution.{type_inst, type_at}
use Rattle.ev_typing.proofs.instances.types_at.Given as goal

abbrev pub invariant-loop-left : goal.invariant-loop-left
invariant-loop-left l = l.args ++ map (type_inst (type_at l.types)) (type_list l.left) ≡ map (type_inst (type_at l.types)) (type_list l.list)
