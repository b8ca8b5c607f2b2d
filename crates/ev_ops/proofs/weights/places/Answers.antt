use Rattle.std.proofs.Common.{arith, ◌≡◌, subst as transport}
use Rattle.ev_ops.specs.inner.Weights.{ArePlaces}
use Rattle.ev_ops.proofs.weights.places.Goals as goal

pub returns : goal.returns
returns c =
    let e : c.loop.counter ≡ c.args.count = (let a = c.loop-test.false in let b = c.loop.auto.counter-end in omega (arith, a, b)) in
    transport (λ n. ArePlaces n c.loop.all.items) e c.loop.invariant
