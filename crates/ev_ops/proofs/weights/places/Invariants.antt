use Rattle.ev_ops.specs.inner.Weights.{ArePlaces}
use Rattle.ev_ops.proofs.weights.places.Given as goal

abbrev pub invariant-loop : goal.invariant-loop
invariant-loop l = ArePlaces l.counter l.all.items
