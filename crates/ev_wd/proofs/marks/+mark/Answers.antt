use Rattle.std.proofs.Common.{ap, ◌-◌, arith}
use Rattle.ev_terms.specs.Term.{terms}
use Rattle.ev_wd.specs.inner.Marks.{all_marked}
use Rattle.ev_wd.proofs.Marking.{at_variable, one_more, all_done}
use Rattle.ev_terms.proofs.Children.{drop_all}
use Rattle.ev_wd.proofs.marks.+mark.Goals as goal

pub mark-returns-in-Some-var : goal.mark-returns-in-Some-var
mark-returns-in-Some-var t c =
    at_variable c.args.tree.now c.args.marks.now c.mark_variable.new.marks c.in-Some-var.i c.args.from _ c.in-Some-var.ensures (omega arith)
    (ap (λ k. k - c.args.from) c.from-in-Some-var.ensures) (c.mark_variable.ensures c.args.from)

pub mark_all-loop-tree-preserved : goal.mark_all-loop-tree-preserved
mark_all-loop-tree-preserved t c =
    one_more c.args.trees.now c.loop-tree.tree-index c.args.from c.tree-item.result c.loop-tree.marks c.mark.new.marks (all_marked c.args.from c.args.marks.now (terms c.args.trees.now))
    c.tree-item.is c.loop-tree-test.true c.mark.ensures c.loop-tree.invariant

pub mark_all-returns : goal.mark_all-returns
mark_all-returns t c =
    all_done c.args.trees.now c.loop-tree.tree-index c.args.from c.loop-tree.marks (all_marked c.args.from c.args.marks.now (terms c.args.trees.now))
    (drop_all c.args.trees.now c.loop-tree.tree-index c.loop-tree-test.false) c.loop-tree.invariant
