use Rattle.ev_kernel.proofs.Equations.{apart, refused, chain, transitive}
use Rattle.ev_kernel.proofs.equality.transitivity.Goals as goal

pub returns-then-not-same : goal.returns-then-not-same
returns-then-not-same c =
    refused (λ f. apart c.same.result c.same.ensures c.if-not-same.true
    (chain c.args.first.now c.args.second.now c.args.sequent.now c.in-Some.types.now c.in-Some-equation_parts.others.now c.in-Some.left.now c.in-Some.middle.now
    c.in-Some-equation_parts.other.now c.in-Some-equation_parts.right.now c.in-Some.ensures.found.0 c.in-Some.ensures.found.1 c.in-Some-equation_parts.ensures.found.0
    c.in-Some-equation_parts.ensures.found.1 f).types)

pub returns-then-not-same-2 : goal.returns-then-not-same-2
returns-then-not-same-2 c =
    refused (λ f. apart c.same-2.result c.same-2.ensures c.if-not-same-2.true
    (chain c.args.first.now c.args.second.now c.args.sequent.now c.in-Some.types.now c.in-Some-equation_parts.others.now c.in-Some.left.now c.in-Some.middle.now
    c.in-Some-equation_parts.other.now c.in-Some-equation_parts.right.now c.in-Some.ensures.found.0 c.in-Some.ensures.found.1 c.in-Some-equation_parts.ensures.found.0
    c.in-Some-equation_parts.ensures.found.1 f).middle)

pub returns : goal.returns
returns c =
    transitive c.args.first.now c.args.second.now c.args.sequent.now c.in-Some.types.now c.in-Some-equation_parts.others.now c.in-Some.left.now c.in-Some.middle.now
    c.in-Some-equation_parts.other.now c.in-Some-equation_parts.right.now c.is_equation.result
    (c.stands_beside.ensures.0 c.if-not-stands_beside.false) (c.stands_beside-2.ensures.0 c.if-not-stands_beside-2.false)
    c.in-Some.ensures.found.0 c.in-Some.ensures.found.1 c.in-Some-equation_parts.ensures.found.0 c.in-Some-equation_parts.ensures.found.1
    (c.same.ensures.0 c.if-not-same.false) (c.same-2.ensures.0 c.if-not-same-2.false) c.is_equation.ensures
