use Rattle.std.proofs.Common.{refl}
use Rattle.ev_ops.specs.Unfold.{unfold_by}
use Rattle.ev_ops.proofs.Weighed.{body_weighed}
use Rattle.ev_ops.proofs.kept_weights.OperatorWeights.weigh.Goals as goal

pub returns : goal.returns
returns c =
    λ bs w f l r. body_weighed (unfold_by bs c.args.body.now) _ c.args.signature.now.params c.in_ok-all.all c.add_tree.new.all c.in_ok-all.ensures.0 c.in_ok-all.ensures.1.0 c.in_ok-all.ensures.1.1
    (c.add_tree.ensures bs 0 w f refl) l r
