use Rattle.std.proofs.Common.{◌≤◌, ◌+◌}
use Rattle.std.specs.Prelude.{◌*◌}
use Rattle.ev_terms.specs.Measures.{type_size, types_size}
use Rattle.ev_ops.specs.declared.weights.Weights.{Weights}
use Rattle.ev_ops.specs.inner.Weights.{IsAdded, weigh_types}
use Rattle.ev_ops.proofs.weights.Weights.+add_type.Given as goal

abbrev pub decreases-add_type : goal.decreases-add_type
decreases-add_type l = 2 * type_size l.ty.now

abbrev pub decreases-add_types : goal.decreases-add_types
decreases-add_types l = 2 * types_size l.types.now + 1

abbrev pub invariant-add_types-loop-left : goal.invariant-add_types-loop-left
invariant-add_types-loop-left l = record {
  smaller : types_size l.left ≤ types_size l.types;
  goes_on : (new : Weights) → IsAdded l.self new l.at (λ τ ω. weigh_types τ l.left) → IsAdded l.initial.self new l.at (λ τ ω. weigh_types τ l.types);
}
