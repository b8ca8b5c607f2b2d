use Rattle.std.proofs.Common.{arith}
use Rattle.ev_terms.proofs.Children.{size_step, second_size}
use Rattle.ev_data.proofs.Occurring.{in_set, in_first, in_second, in_head, in_tail, set_size, first_size, head_size}
use Rattle.ev_data.proofs.admission.+has_data.Goals as goal

pub has_data-returns-in-Pow : goal.has_data-returns-in-Pow
has_data-returns-in-Pow t c = in_set c.args.name.now c.args.ty.now c.in-Pow.a c.get.result.now _ c.in-Pow.is c.get.ensures c.has_data.ensures

pub has_data-returns-then-has_data : goal.has_data-returns-then-has_data
has_data-returns-then-has_data t c =
    in_first c.args.name.now c.args.ty.now c.in-Prod.a c.in-Prod.b c.get-in-Prod.result.now _ c.in-Prod.is c.get-in-Prod.ensures c.if-has_data.ensures c.has_data-in-Prod.ensures

pub has_data-returns-else-has_data : goal.has_data-returns-else-has_data
has_data-returns-else-has_data t c =
    in_second c.args.name.now c.args.ty.now c.in-Prod.a c.in-Prod.b c.get-in-Prod.result.now c.get-else-has_data.result.now _ c.in-Prod.is c.get-in-Prod.ensures c.get-else-has_data.ensures
    c.if-has_data.ensures c.has_data-else-has_data.ensures

pub have_data-returns-then-has_data : goal.have_data-returns-then-has_data
have_data-returns-then-has_data t c = in_head c.args.name.now c.loop-left.left.now c.args.types.now c.in-More.ty c.get.result.now c.in-More.rest c.in-More.is c.get.ensures c.if-has_data.ensures c.loop-left.invariant.rest

pub have_data-loop-left-preserved : goal.have_data-loop-left-preserved
have_data-loop-left-preserved t c = record {
  smaller = size_step _ _ _ _ _ c.in-More.is c.get-left.ensures c.loop-left.invariant.smaller;
  rest = in_tail c.args.name.now c.loop-left.left.now c.args.types.now c.in-More.ty c.get.result.now c.in-More.rest c.get-left.result.now c.in-More.is c.get.ensures c.get-left.ensures c.if-has_data.ensures c.loop-left.invariant.rest;
}

pub has_data-has_data-requires : goal.has_data-has_data-requires
has_data-has_data-requires t c = (let r = set_size _ _ _ c.in-Pow.is c.get.ensures in let d = c.decreases in omega (arith, r, d), tt)

pub has_data-has_data-requires-in-Prod : goal.has_data-has_data-requires-in-Prod
has_data-has_data-requires-in-Prod t c = (let r = first_size _ _ _ _ c.in-Prod.is c.get-in-Prod.ensures in let d = c.decreases in omega (arith, r, d), tt)

pub has_data-has_data-requires-else-has_data : goal.has_data-has_data-requires-else-has_data
has_data-has_data-requires-else-has_data t c = (let r = second_size _ _ _ _ c.in-Prod.is c.get-else-has_data.ensures in let d = c.decreases in omega (arith, r, d), tt)

pub have_data-has_data-requires : goal.have_data-has_data-requires
have_data-has_data-requires t c = (let r = head_size _ _ _ _ _ c.in-More.is c.get.ensures c.loop-left.invariant.smaller in let d = c.decreases in omega (arith, r, d), tt)
