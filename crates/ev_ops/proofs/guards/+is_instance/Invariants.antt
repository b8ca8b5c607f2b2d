use Rattle.std.proofs.Common.{◌≡◌, ◌≤◌, ◌+◌}
use Rattle.std.specs.Prelude.{◌*◌, ◌↔◌}
use Rattle.ev_terms.specs.Measures.{type_size, types_size}
use Rattle.ev_terms.specs.Substitution.{types_inst, type_at}
use Rattle.ev_ops.proofs.guards.+is_instance.Given as goal

abbrev pub decreases-is_instance : goal.decreases-is_instance
decreases-is_instance l = 2 * type_size l.pattern.now

abbrev pub decreases-are_instances : goal.decreases-are_instances
decreases-are_instances l = 2 * types_size l.patterns.now + 1

abbrev pub invariant-are_instances-loop-left : goal.invariant-are_instances-loop-left
invariant-are_instances-loop-left l = record {
  smaller : types_size l.left ≤ types_size l.patterns;
  goes_on : (types_inst (type_at l.types) l.left ≡ l.others) ↔ (types_inst (type_at l.types) l.patterns ≡ l.list);
}
