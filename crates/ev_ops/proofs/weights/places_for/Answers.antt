use Rattle.ev_ops.proofs.WeightLaws.{places_end, places_step}
use Rattle.ev_ops.proofs.weights.places_for.Goals as goal

pub returns : goal.returns
returns c = places_end c.loop-left.all.items _ c.loop-left.left.now c.in_default.is c.loop-left.invariant.count c.loop-left.invariant.empty

pub loop-left-preserved : goal.loop-left-preserved
loop-left-preserved c =
    let step = places_step c.loop-left.all.items c.push.new.self.items _ c.loop-left.left.now c.in-More.rest c.get-left.result.now c.in-More.field-0 c.in-More.is c.get-left.ensures c.in_ok-push.ensures.items
    c.loop-left.invariant.count c.loop-left.invariant.empty in
    record { count = step.0; empty = step.1 }
