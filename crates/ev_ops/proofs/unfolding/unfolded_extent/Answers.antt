use Rattle.ev_ops.proofs.unfolding.unfolded_extent.Goals as goal

pub returns : goal.returns
returns c = λ t. c.extent.ensures c.args.env.now c.in_ok-weights.ensures.0 c.in_ok-weights.ensures.1 t
