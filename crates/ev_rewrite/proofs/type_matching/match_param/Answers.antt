use Rattle.std.proofs.Common.{refl, subst, arith}
use Rattle.ev_rewrite.specs.inner.Slots.{IsPut}
use Rattle.ev_rewrite.proofs.TakenSteps.{taken_param, taken_past}
use Rattle.ev_rewrite.proofs.type_matching.match_param.Goals as goal

pub returns-then-at-len : goal.returns-then-at-len
returns-then-at-len c = taken_past c.args.j c.args.ty.now c.args.found.now c.same.result (omega (arith, c.len.ensures, c.if-at-len.true)) c.same.ensures

pub returns : goal.returns
returns c =
    taken_param c.args.j c.args.ty.now c.args.found.now _ c.put.result (omega (arith, c.len.ensures, c.if-at-len.false)) refl
    (subst (λ x. IsPut c.args.found.now.types.items c.args.j x c.put.new.slots.items c.put.result) c.in_ok-try_copy.ensures c.put.ensures)
