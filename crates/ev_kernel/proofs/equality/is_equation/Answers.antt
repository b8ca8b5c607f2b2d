use Rattle.ev_kernel.proofs.Equations.{apart, other_types, other_left, by_right}
use Rattle.ev_kernel.proofs.equality.is_equation.Goals as goal

pub returns-then-not-same : goal.returns-then-not-same
returns-then-not-same c =
    other_types c.args.tree.now c.args.left.now c.args.right.now c.in-Some.found.now c.args.types.now c.in-Some.ensures.found.1
    (apart c.same.result c.same.ensures c.if-not-same.true)

pub returns-then-not-same-2 : goal.returns-then-not-same-2
returns-then-not-same-2 c =
    other_left c.args.tree.now c.args.left.now c.args.right.now c.in-Some.s.now c.in-Some.t.now c.in-Some.found.now c.args.types.now c.in-Some.ensures.found.0
    (apart c.same-2.result c.same-2.ensures c.if-not-same-2.true)

pub returns : goal.returns
returns c =
    by_right c.args.tree.now c.args.left.now c.args.right.now c.in-Some.s.now c.in-Some.t.now c.in-Some.found.now c.args.types.now c.same-3.result c.in-Some.ensures.found.0 c.in-Some.ensures.found.1
    (c.same.ensures.0 c.if-not-same.false) (c.same-2.ensures.0 c.if-not-same-2.false) c.same-3.ensures
