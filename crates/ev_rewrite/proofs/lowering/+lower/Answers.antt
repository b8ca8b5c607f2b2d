use Rattle.std.proofs.Common.{◌+◌, ap, sym, ◌∙◌, subst, arith}
use Rattle.std.proofs.lemmas.Result.{IfOk-weaker}
use Rattle.ev_terms.proofs.Children.{depth_at}
use Rattle.ev_typing.proofs.Checks.{node_of, inner_depth}
use Rattle.ev_rewrite.specs.inner.Lowered.{IsLowered, AreLowered}
use Rattle.ev_rewrite.proofs.LoweredSteps.{lowered_closed, not_lowered_node, more_lowered, not_lowered_at}
use Rattle.ev_rewrite.proofs.lowering.+lower.Goals as goal

pub lower_all-lower_from-requires : goal.lower_all-lower_from-requires
lower_all-lower_from-requires t c = (omega (arith, depth_at c.args.trees.now c.loop-tree.tree-index c.tree-item.result c.tree-item.is c.loop-tree-test.true), tt)

pub lower_all-returns-in-None : goal.lower_all-returns-in-None
lower_all-returns-in-None t c =
    not_lowered_at c.args.trees.now c.loop-tree.tree-index c.tree-item.result c.args.from c.args.by c.tree-item.is c.loop-tree-test.true
    (subst (IsLowered c.args.from c.args.by c.tree-item.result) c.in-None.is c.in_ok-lowered.ensures)

pub lower_all-loop-tree-preserved : goal.lower_all-loop-tree-preserved
lower_all-loop-tree-preserved t c =
    more_lowered c.args.trees.now c.loop-tree.all c.push.new.self c.loop-tree.tree-index c.tree-item.result c.in-Some.lowered c.args.from c.args.by c.tree-item.is c.loop-tree-test.true
    c.loop-tree.invariant (subst (IsLowered c.args.from c.args.by c.tree-item.result) c.in-Some.is c.in_ok-lowered.ensures) c.in_ok-push-in-Some.ensures.ok

pub lower_from-returns-then-loose-from : goal.lower_from-returns-then-loose-from
lower_from-returns-then-loose-from t c =
    lowered_closed c.args.tree.now c.in_ok-try_copy.field-0 c.args.from c.args.by c.in_ok-try_copy.ensures (omega (arith, c.loose.ensures.is, c.if-loose-from.true))

pub lower_from-lower_node-requires : goal.lower_from-lower_node-requires
lower_from-lower_node-requires t c = (
  omega (arith, inner_depth c.args.tree.now c.in-Some-sym.sym.now c.children.result.now c.in-Some-sym.ensures c.children.ensures),
  omega (arith, c.loose.ensures.small, c.if-loose-from.false),
)

pub lower_from-returns-in-Some-types : goal.lower_from-returns-in-Some-types
lower_from-returns-in-Some-types t c =
    IfOk-weaker c.lower_node.result _ _ (λ o h.
    subst (λ u. IsLowered c.args.from c.args.by u o)
    (sym (node_of c.args.tree.now c.in-Some-sym.sym.now c.in-Some-types.types.now c.children.result.now c.in-Some-sym.ensures c.in-Some-types.ensures c.children.ensures)) h)
    c.lower_node.ensures

pub lower_node-returns-in_default : goal.lower_node-returns-in_default
lower_node-returns-in_default t c =
    not_lowered_node c.args.sym.now c.args.types.now c.args.children.now c.args.from _ c.args.by (ap (λ n. c.args.from + n) (c.from.ensures ∙ c.binds.ensures))
    (subst (AreLowered _ c.args.by c.args.children.now) c.in_default.is c.in_ok-children.ensures)
