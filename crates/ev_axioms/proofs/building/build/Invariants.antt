use Rattle.std.proofs.Common.{◌≡◌, [], drop, reverse}
use Rattle.ev_axioms.specs.inner.Building.{built}
use Rattle.ev_axioms.proofs.building.build.Given as goal

abbrev pub invariant-loop-step : goal.invariant-loop-step
invariant-loop-step l = built (drop l.step-index l.steps) (reverse l.stack.items) ≡ built l.steps []
