use Rattle.std.proofs.Common.{◌≡◌, ◌+◌, ℕ, length}
use Rattle.ev_terms.specs.Types.{type_list}
use Rattle.ev_ops.specs.declared.weights.Weight.{Weight}
use Rattle.ev_ops.specs.inner.Weights.{filled_with, nothing}
use Rattle.ev_ops.proofs.weights.places_for.Given as goal

abbrev pub invariant-loop-left : goal.invariant-loop-left
invariant-loop-left l = record {
  count : length l.all.items + length (type_list l.left) ≡ length (type_list l.types);
  empty : (ω : ℕ → Weight) → filled_with l.all.items ω ≡ nothing;
}
