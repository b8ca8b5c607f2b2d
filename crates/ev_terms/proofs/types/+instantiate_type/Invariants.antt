use Rattle.std.proofs.Common.{◌≡◌, ◌≤◌, ◌++◌, map, ◌+◌, ◌*◌}
use Rattle.ev_terms.specs.Measures.{type_size, types_size}
use Rattle.ev_terms.specs.Types.{type_list}
use Rattle.ev_terms.specs.Substitution.{type_inst, type_at}
use Rattle.ev_terms.proofs.types.+instantiate_type.Given as goal

abbrev pub decreases-instantiate_type : goal.decreases-instantiate_type
decreases-instantiate_type l = 2 * type_size l.ty.now

abbrev pub decreases-instantiate_list : goal.decreases-instantiate_list
decreases-instantiate_list l = 2 * types_size l.list.now + 1

abbrev pub invariant-instantiate_list-loop-left : goal.invariant-instantiate_list-loop-left
invariant-instantiate_list-loop-left l = record {
  smaller : types_size l.left ≤ types_size l.list;
  rest : l.instances.items ++ map (type_inst (type_at l.types)) (type_list l.left) ≡ map (type_inst (type_at l.types)) (type_list l.list);
}
