use Rattle.ev_resolve.specs.inner.BareView.{bares}
use Rattle.ev_infer.specs.inner.Bulks.{type_at_unknown}
use Rattle.ev_infer.specs.inner.Filling.{all_made}
use Rattle.ev_infer.proofs.FillingSteps.{made_end}
use Rattle.ev_infer.proofs.filling.+build.Goals as goal

pub build_all-returns : goal.build_all-returns
build_all-returns t c =
    made_end c.args.env.now (type_at_unknown c.args.types.now) c.args.children.now c.loop-child.child-index c.loop-child.unused c.loop-child.trees
    (all_made c.args.env.now (bares c.args.children.now) c.args.next (type_at_unknown c.args.types.now)) c.loop-child-test.false c.loop-child.invariant
