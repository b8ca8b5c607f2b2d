use Rattle.std.proofs.Common.{◌-◌, refl, subst, arith}
use Rattle.ev_rewrite.specs.inner.Lowered.{IsLowered}
use Rattle.ev_rewrite.proofs.TakenSteps.{taken_bound, refused_binder, taken_variable}
use Rattle.ev_rewrite.proofs.matching.match_variable.Goals as goal

pub returns-then-from-depth : goal.returns-then-from-depth
returns-then-from-depth c =
    taken_bound c.args.i c.args.tree.now c.args.depth c.args.found.now c.is_variable.result (omega (arith, c.from.ensures, c.if-from-depth.true)) c.is_variable.ensures

pub returns-in-None : goal.returns-in-None
returns-in-None c =
    refused_binder c.args.i c.args.tree.now c.args.depth c.args.found.now c.args.found.now (omega (arith, c.from.ensures, c.if-from-depth.false))
    (subst (IsLowered 0 c.args.depth c.args.tree.now) c.in-None.is c.in_ok-lower.ensures)

pub returns-in-Some : goal.returns-in-Some
returns-in-Some c =
    taken_variable c.args.i c.args.tree.now c.in-Some.term c.args.depth (c.len.result - 1 - (c.args.i - c.args.depth)) c.args.found.now _ c.put.result
    (omega (arith, c.from.ensures, c.if-from-depth.false)) (omega (arith, c.requires)) (omega (arith, c.len.ensures))
    (subst (IsLowered 0 c.args.depth c.args.tree.now) c.in-Some.is c.in_ok-lower.ensures) refl c.put.ensures
