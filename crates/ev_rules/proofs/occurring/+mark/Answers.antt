use Rattle.std.proofs.Common.{sym, ◌∙◌, arith}
use Rattle.ev_terms.specs.Term.{terms}
use Rattle.ev_typing.specs.Occurs.{mention_param}
use Rattle.ev_rules.specs.inner.Marks.{marked}
use Rattle.ev_rules.proofs.Marking.{at_bare, at_leaf, at_node, one_more, all_done}
use Rattle.ev_rules.proofs.occurring.+mark.Goals as goal

pub mark-returns-then-bounds_of-eq0 : goal.mark-returns-then-bounds_of-eq0
mark-returns-then-bounds_of-eq0 t c = at_bare c.args.tree.now c.args.marks.now (sym c.bounds_of.ensures.1.1.1 ∙ c.if-bounds_of-eq0.true)

pub mark-returns-in-Some : goal.mark-returns-in-Some
mark-returns-in-Some t c =
    at_node c.args.tree.now c.in-Some.field-0-0.now c.in-Some.types.now c.in-Some.children.now c.args.marks.now c.mark_types.new.marks c.mark_all.new.marks c.in-Some.ensures.found c.mark_types.ensures c.mark_all.ensures

pub mark-returns-in_default : goal.mark-returns-in_default
mark-returns-in_default t c = at_leaf c.args.tree.now c.args.marks.now c.in_default.ensures.none

pub mark_all-loop-tree-preserved : goal.mark_all-loop-tree-preserved
mark_all-loop-tree-preserved t c =
    one_more c.args.trees.now c.loop-tree.tree-index c.tree-item.result c.loop-tree.marks c.mark.new.marks (marked 0 (λ j. mention_param j (terms c.args.trees.now)) c.args.marks.now)
    c.tree-item.is c.loop-tree-test.true c.mark.ensures c.loop-tree.invariant

pub mark_all-returns : goal.mark_all-returns
mark_all-returns t c =
    all_done c.args.trees.now c.loop-tree.tree-index c.loop-tree.marks (marked 0 (λ j. mention_param j (terms c.args.trees.now)) c.args.marks.now)
    (omega (arith, c.loop-tree-test.false)) c.loop-tree.invariant
