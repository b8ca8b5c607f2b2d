use Rattle.ev_terms.specs.Substitution.{fill, instance}
use Rattle.ev_kernel.proofs.Lists.{image_step}
use Rattle.ev_kernel.proofs.quantifiers.are_instances.Goals as goal

pub loop-i-preserved : goal.loop-i-preserved
loop-i-preserved c =
    image_step (λ P. fill (instance P c.args.types.now) c.args.terms.now) c.args.trees.now c.args.patterns.now c.loop-i.i c.index-trees-i.result c.index-patterns-i.result c.loop-i.invariant
    c.index-trees-i.is c.index-patterns-i.is c.loop-i-test.true c.if-trees-patterns.false (c.in_ok-is_instance.ensures.0 c.if-not-branch.false)
