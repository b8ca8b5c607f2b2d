use Rattle.std.proofs.Common.{◌+◌, ◌∙◌, map, reverse}
use Rattle.ev_terms.specs.Substitution.{inst, lifts, entry}
use Rattle.ev_kernel.proofs.Lists.{image_step}
use Rattle.ev_kernel.proofs.Comparing.{same_node, inst_node}
use Rattle.ev_kernel.proofs.instances.+is_filled.Goals as goal

pub are_filled-loop-i-preserved : goal.are_filled-loop-i-preserved
are_filled-loop-i-preserved t c =
    image_step (inst (lifts c.args.depth (entry (reverse c.args.arguments.now)))) c.args.trees.now c.args.patterns.now c.loop-i.i c.index-trees-i.result c.index-patterns-i.result c.loop-i.invariant
    c.index-trees-i.is c.index-patterns-i.is c.loop-i-test.true c.if-trees-patterns.false (c.is_filled_under.ensures.0 c.if-not-is_filled_under.false)

pub is_filled_under-returns-else-not-same-2 : goal.is_filled_under-returns-else-not-same-2
is_filled_under-returns-else-not-same-2 t c =
    same_node c.args.tree.now (inst (lifts c.args.depth (entry (reverse c.args.arguments.now))) c.args.pattern.now) c.in-Some.sym.now c.in-Some-node_parts.found.now c.in-Some.types.now
    c.in-Some-node_parts.list.now c.in-Some-node_parts.trees.now (map (inst (lifts (c.args.depth + c.from.result) (entry (reverse c.args.arguments.now)))) c.in-Some.children.now) c.are_filled.result
    (inst_node c.args.pattern.now c.args.depth c.from.result (entry (reverse c.args.arguments.now)) c.in-Some.sym.now c.in-Some.types.now c.in-Some.children.now c.in-Some.ensures.found
    (c.from.ensures ∙ c.binds.ensures))
    c.in-Some-node_parts.ensures.found (c.same-in-Some-node_parts.ensures.0 c.if-not-same.false) (c.same-in-Some-node_parts-2.ensures.0 c.if-not-same-2.false) c.are_filled.ensures
