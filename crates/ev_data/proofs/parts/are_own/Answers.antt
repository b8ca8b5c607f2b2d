use Rattle.std.proofs.Common.{sym, ◌∙◌, arith, true≢false}
use Rattle.ev_data.proofs.Lists.{own_more, own_full, own_other, own_nothing}
use Rattle.ev_data.proofs.parts.are_own.Goals as goal

pub returns-then-i-n : goal.returns-then-i-n
returns-then-i-n c = own_full c.loop-left.i c.args.n c.loop-left.left.now c.in-More.rest c.in-More.ty _ c.in-More.is c.if-i-n.true c.loop-left.invariant.so_far

pub returns-then-not-is_param : goal.returns-then-not-is_param
returns-then-not-is_param c =
    own_other c.loop-left.i c.args.n c.loop-left.left.now c.in-More.rest c.in-More.ty c.get.result.now _ c.in-More.is c.get.ensures
    (λ p. true≢false (sym (c.is_param.ensures.1 p) ∙ c.if-not-is_param.true)) c.if-i-n.false c.loop-left.invariant.within c.loop-left.invariant.so_far

pub loop-left-preserved : goal.loop-left-preserved
loop-left-preserved c = record {
  within = omega arith;
  so_far =
      own_more c.loop-left.i c.args.n c.loop-left.left.now c.in-More.rest c.get-left.result.now c.in-More.ty c.get.result.now _ c.in-More.is c.get.ensures c.get-left.ensures
      (c.is_param.ensures.0 c.if-not-is_param.false) c.if-i-n.false c.loop-left.invariant.within c.loop-left.invariant.so_far;
}
