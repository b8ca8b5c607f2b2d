use Rattle.std.proofs.Common.{◌≡◌, [], take}
use Rattle.ev_ops.specs.Unfold.{bodies_after}
use Rattle.ev_ops.proofs.kept_bodies.Bodies.of.Given as goal

abbrev pub invariant-loop-i : goal.invariant-loop-i
invariant-loop-i l = l.bodies ≡ bodies_after [] (take l.i l.env)
