use Rattle.std.proofs.Common.{[], take}
use Rattle.ev_ops.specs.Unfold.{bodies_after}
use Rattle.ev_ops.specs.inner.Weights.{AreWeighed}
use Rattle.ev_ops.proofs.kept_weights.OperatorWeights.of.Given as goal

abbrev pub invariant-loop-i : goal.invariant-loop-i
invariant-loop-i l = AreWeighed (bodies_after [] (take l.i l.env)) l.weights.by_name.entries
