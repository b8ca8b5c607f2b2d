use Rattle.std.proofs.Common.{sym, ◌∙◌}
use Rattle.ev_kernel.proofs.Equations.{apart, refused}
use Rattle.ev_kernel.proofs.Lists.{extends_more, extends_other}
use Rattle.ev_kernel.proofs.contexts.extends.Goals as goal

pub returns-then-not-same : goal.returns-then-not-same
returns-then-not-same c =
    refused
    (λ y. extends_other c.loop-others.left.now c.loop-others.others.now _ _ c.args.last.now _ _ c.in-More-left.is c.in-More.is
    (λ e. apart c.same.result c.same.ensures c.if-not-same.true (c.get.ensures ∙ e ∙ sym c.get-in-More.ensures)) (c.loop-others.invariant.1 y))

pub loop-others-preserved : goal.loop-others-preserved
loop-others-preserved c =
    let step = extends_more c.loop-others.left.now c.loop-others.others.now _ _ c.args.last.now _ c.get-left.result.now _ c.get-others.result.now c.in-More-left.is c.in-More.is c.get-left.ensures
    c.get-others.ensures (sym c.get.ensures ∙ c.same.ensures.0 c.if-not-same.false ∙ c.get-in-More.ensures) in
    (λ y. c.loop-others.invariant.0 (step.0 y), λ y. step.1 (c.loop-others.invariant.1 y))
