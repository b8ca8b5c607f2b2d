use Rattle.std.proofs.Common.{arith, refl, false}
use Rattle.ev_ops.proofs.Guarding.{own_empty, own_full, own_other, own_more}
use Rattle.ev_ops.proofs.guards.are_own_types.Goals as goal

pub returns-then-i-n : goal.returns-then-i-n
returns-then-i-n c = c.loop-left.invariant.goes_on false (own_full c.loop-left.left.now c.in-More.rest c.in-More.ty c.loop-left.i c.args.n c.in-More.is c.if-i-n.true)

pub returns-then-not-is_param : goal.returns-then-not-is_param
returns-then-not-is_param c =
    c.loop-left.invariant.goes_on false
    (own_other c.loop-left.left.now c.in-More.rest c.in-More.ty c.get.result.now c.loop-left.i c.args.n c.is_param.result c.in-More.is c.get.ensures c.loop-left.invariant.within c.if-i-n.false
    c.if-not-is_param.true c.is_param.ensures)

pub returns : goal.returns
returns c = c.loop-left.invariant.goes_on _ (own_empty c.loop-left.left.now c.loop-left.i c.args.n _ c.in_default.is c.loop-left.invariant.within refl)

pub loop-left-preserved : goal.loop-left-preserved
loop-left-preserved c = record {
  within = omega arith;
  goes_on = λ b h. c.loop-left.invariant.goes_on b
      (own_more c.loop-left.left.now c.in-More.rest c.get-left.result.now c.in-More.ty c.get.result.now c.loop-left.i c.args.n c.is_param.result b c.in-More.is c.get.ensures c.get-left.ensures
      c.loop-left.invariant.within c.if-i-n.false c.if-not-is_param.false c.is_param.ensures h);
}
