use Rattle.std.specs.Option.{option_copied}
use Rattle.ev_forms.specs.Binders.{equated}
use Rattle.ev_typing.specs.BaseSequents.{widened}
use Rattle.ev_kernel.specs.inner.Contexts.{optional}
use Rattle.ev_kernel.proofs.Equations.{apart}
use Rattle.ev_kernel.proofs.Congruence.{equates_right, equates_other, equates_nothing, equates_elsewhere}
use Rattle.ev_kernel.proofs.equality.equates.Goals as goal

pub returns-then-not-stands_inside : goal.returns-then-not-stands_inside
returns-then-not-stands_inside c =
    equates_elsewhere c.args.premise.now (widened c.args.sequent.now (optional (option_copied c.args.bound))) c.args.left.now c.args.right.now
    (apart c.stands_inside.result c.stands_inside.ensures c.if-not-stands_inside.true)

pub returns-then-not-same : goal.returns-then-not-same
returns-then-not-same c =
    equates_other c.args.premise.now (widened c.args.sequent.now (optional (option_copied c.args.bound))) (equated c.in-Some.field-0-0.now) c.args.left.now c.args.right.now
    c.in-Some.s.now c.in-Some.t.now c.in-Some.ensures.found.0 (apart c.same.result c.same.ensures c.if-not-same.true)

pub returns-else-not-same : goal.returns-else-not-same
returns-else-not-same c =
    equates_right c.args.premise.now (widened c.args.sequent.now (optional (option_copied c.args.bound))) (equated c.in-Some.field-0-0.now) c.args.left.now c.args.right.now
    c.in-Some.s.now c.in-Some.t.now c.same-in-Some.result (c.stands_inside.ensures.0 c.if-not-stands_inside.false) c.in-Some.ensures.found.0
    (c.same.ensures.0 c.if-not-same.false) c.same-in-Some.ensures

pub returns-in-None : goal.returns-in-None
returns-in-None c =
    equates_nothing c.args.premise.now (widened c.args.sequent.now (optional (option_copied c.args.bound))) c.args.left.now c.args.right.now c.in-None.ensures.none
