use Rattle.ev_terms.specs.Substitution.{shift}
use Rattle.ev_kernel.proofs.Lists.{image_step}
use Rattle.ev_kernel.proofs.Comparing.{same_node, shift_node}
use Rattle.std.proofs.Common.{◌+◌, ◌∙◌, map}
use Rattle.ev_kernel.proofs.instances.+is_shift.Goals as goal

pub are_shifts-loop-i-preserved : goal.are_shifts-loop-i-preserved
are_shifts-loop-i-preserved t c =
    image_step (λ u. shift u c.args.from c.args.by) c.args.trees.now c.args.others.now c.loop-i.i c.index-trees-i.result c.index-others-i.result c.loop-i.invariant
    c.index-trees-i.is c.index-others-i.is c.loop-i-test.true c.if-trees-others.false (c.is_shift.ensures.0 c.if-not-is_shift.false)

pub is_shift-returns-else-not-same-2 : goal.is_shift-returns-else-not-same-2
is_shift-returns-else-not-same-2 t c =
    same_node c.args.tree.now (shift c.args.other.now c.args.from c.args.by) c.in-Some.sym.now c.in-Some-node_parts.found.now c.in-Some.types.now c.in-Some-node_parts.list.now
    c.in-Some-node_parts.trees.now (map (λ u. shift u (c.args.from + c.from.result) c.args.by) c.in-Some.children.now) c.are_shifts.result
    (shift_node c.args.other.now c.args.from c.args.by c.from.result c.in-Some.sym.now c.in-Some.types.now c.in-Some.children.now c.in-Some.ensures.found (c.from.ensures ∙ c.binds.ensures))
    c.in-Some-node_parts.ensures.found (c.same-in-Some-node_parts.ensures.0 c.if-not-same.false) (c.same-in-Some-node_parts-2.ensures.0 c.if-not-same-2.false) c.are_shifts.ensures
