use Rattle.std.proofs.Common.{◌≡◌, ◌≤◌, max, ◌+◌, ◌*◌}
use Rattle.ev_terms.specs.Measures.{type_size, types_params, types_size}
use Rattle.ev_terms.proofs.tree.measures.+type_params.Given as goal

abbrev pub decreases-type_params : goal.decreases-type_params
decreases-type_params l = 2 * type_size l.ty.now

abbrev pub decreases-types_params : goal.decreases-types_params
decreases-types_params l = 2 * types_size l.types.now + 1

abbrev pub invariant-types_params-loop-left : goal.invariant-types_params-loop-left
invariant-types_params-loop-left l = record {
  smaller : types_size l.left ≤ types_size l.types;
  rest : max l.all (types_params l.left) ≡ types_params l.types;
}
