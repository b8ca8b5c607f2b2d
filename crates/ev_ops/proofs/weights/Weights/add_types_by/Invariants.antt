use Rattle.std.proofs.Common.{map, drop}
use Rattle.ev_terms.specs.Types.{type_list}
use Rattle.ev_ops.specs.declared.weights.Weights.{Weights}
use Rattle.ev_ops.specs.inner.Weights.{IsAdded, zipped, weigh_type}
use Rattle.ev_ops.proofs.weights.Weights.add_types_by.Given as goal

abbrev pub invariant-loop-weight : goal.invariant-loop-weight
invariant-loop-weight l =
    (new : Weights) → IsAdded l.self new l.at (λ τ ω. zipped (drop l.weight-index l.weights) (map (weigh_type τ) (type_list l.left))) →
    IsAdded l.initial.self new l.at (λ τ ω. zipped l.weights (map (weigh_type τ) (type_list l.types)))
