use Rattle.std.proofs.Common.{refl, arith, map, reverse, take, subst as transport}
use Rattle.ev_terms.specs.Term.{Term}
use Rattle.ev_ops.specs.Unfold.{unfold_by}
use Rattle.ev_ops.specs.inner.Weights.{IsAdded, weigh, zipped}
use Rattle.ev_ops.proofs.WeightLaws.{zipped_done}
use Rattle.ev_ops.proofs.Weighed.{operator_added, plain_added, leaf_added, trees_step, trees_end, arguments_step, arguments_none}
use Rattle.ev_ops.proofs.kept_weights.OperatorWeights.+add_tree.Goals as goal

pub add_arguments-returns-then-left-eq0 : goal.add_arguments-returns-then-left-eq0
add_arguments-returns-then-left-eq0 t c =
    λ bs n w f u. c.loop-weight.invariant.goes_on bs n w f u c.loop-weight.all
    (arguments_none bs c.args.arguments.now c.loop-weight.left n c.loop-weight.weight-index c.args.at c.args.weights.now c.loop-weight.all c.if-left-eq0.true)

pub add_arguments-loop-weight-preserved : goal.add_arguments-loop-weight-preserved
add_arguments-loop-weight-preserved t c = record {
  inside = (let l = c.loop-weight.invariant.inside in omega (arith, l));
  goes_on = λ bs n w f u new h. c.loop-weight.invariant.goes_on bs n w f u new
      (arguments_step bs c.args.arguments.now c.loop-weight.left _ n c.loop-weight.weight-index c.index-arguments-left.result c.args.at c.within.result _ c.args.weights.now c.loop-weight.all
      c.add_tree.new.all new f (let z = c.if-left-eq0.false in omega (arith, z)) c.loop-weight.invariant.inside refl c.index-arguments-left.is c.loop-weight-test.true c.within.ensures
      (λ g. c.add_tree.ensures bs n w g u) h);
}

pub add_arguments-returns : goal.add_arguments-returns
add_arguments-returns t c =
    λ bs n w f u. c.loop-weight.invariant.goes_on bs n w f u c.loop-weight.all
    (zipped_done c.loop-weight.all c.args.at c.args.weights.now c.loop-weight.weight-index
    (λ τ ω. map (λ (x : Term). weigh τ ω n (unfold_by bs x)) (reverse (take c.loop-weight.left c.args.arguments.now))) c.loop-weight-test.false)

pub add_tree-returns-in-Some-weights : goal.add_tree-returns-in-Some-weights
add_tree-returns-in-Some-weights t c =
    λ bs n w f u. operator_added bs c.args.self.now.by_name.entries n c.args.tree.now c.in-Some.sym.now c.in-Some.types.now c.in-Some.children.now c.args.at c.in-Some-weights.body.now c.args.all.now
    c.add_body.new.self c.add_arguments.new.all c.in-Some.ensures.found c.in-Some-weights.ensures w f c.add_body.ensures
    (λ g. transport (λ ws. IsAdded c.add_body.new.self c.add_arguments.new.all c.args.at (λ τ ω. zipped ws (map (λ (x : Term). weigh τ ω n (unfold_by bs x)) (reverse c.in-Some.children.now)))) c.deref.ensures.value
    (c.add_arguments.ensures bs n w g u))

pub add_tree-returns-in-None-weights : goal.add_tree-returns-in-None-weights
add_tree-returns-in-None-weights t c =
    λ bs n w f u. plain_added bs c.args.self.now.by_name.entries n c.args.under c.inner.result c.args.tree.now c.in-Some.sym.now c.in-Some.types.now c.in-Some.children.now c.args.at c.below-inside.result
    c.args.all.now c.add_own.new.self c.add_types.new.self c.add_trees.new.all c.in-Some.ensures.found c.in-None-weights.ensures w f u c.inner.ensures c.add_own.ensures c.below-inside.ensures
    c.add_types.ensures (λ m g d. c.add_trees.ensures bs m w g d)

pub add_tree-returns-in-None : goal.add_tree-returns-in-None
add_tree-returns-in-None t c =
    λ bs n w f u. leaf_added bs n c.args.tree.now c.args.at c.args.all.now c.add_leaf.new.self c.in-None.ensures.none (c.add_leaf.ensures n u c.in-None.ensures.none)

pub add_trees-loop-tree-preserved : goal.add_trees-loop-tree-preserved
add_trees-loop-tree-preserved t c =
    λ bs n w f u new h. c.loop-tree.invariant bs n w f u new
    (trees_step bs c.args.trees.now c.loop-tree.tree-index n c.tree-item.result c.args.at c.loop-tree.all c.add_tree.new.all new f c.tree-item.is c.loop-tree-test.true
    (λ g. c.add_tree.ensures bs n w g u) h)

pub add_trees-returns : goal.add_trees-returns
add_trees-returns t c =
    λ bs n w f u. c.loop-tree.invariant bs n w f u c.loop-tree.all (trees_end bs c.args.trees.now c.loop-tree.tree-index n c.args.at c.loop-tree.all c.loop-tree-test.false)
