use Rattle.std.proofs.Common.{[], refl}
use Rattle.ev_ops.specs.Unfold.{unfolded, bodies_after}
use Rattle.ev_ops.proofs.Fitting.{fit_of}
use Rattle.ev_ops.proofs.Weighed.{extent_found}
use Rattle.ev_ops.proofs.kept_weights.OperatorWeights.extent.Goals as goal

pub returns : goal.returns
returns c =
    λ env w h t. extent_found (unfolded env c.args.tree.now) c.new-all.result c.add_tree.new.all c.extent_of.result c.new-all.ensures.own c.new-all.ensures.variables c.new-all.ensures.types
    (c.add_tree.ensures (bodies_after [] env) 0 h (fit_of env w t.0 c.args.tree.now t.1 t.2) refl) c.extent_of.ensures
