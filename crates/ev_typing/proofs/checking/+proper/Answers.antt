use Rattle.std.proofs.Common.{arith}
use Rattle.ev_terms.proofs.Children.{second_size, size_step}
use Rattle.ev_typing.proofs.Checks.{prod_step, proper_step}
use Rattle.ev_typing.proofs.checking.+proper.Goals as goal

pub test_type-returns-then-test_type : goal.test_type-returns-then-test_type
test_type-returns-then-test_type t c =
    prod_step c.args.env.now c.args.ty.now c.in-Prod.a c.in-Prod.b c.get-in-Prod.result.now c.get-then-test_type.result.now _ c.in-Prod.is c.get-in-Prod.ensures c.get-then-test_type.ensures
    c.if-test_type.ensures c.test_type-then-test_type.ensures

pub test_types-loop-left-preserved : goal.test_types-loop-left-preserved
test_types-loop-left-preserved t c = record {
  smaller = size_step _ _ _ _ _ c.in-More.is c.get-left.ensures c.loop-left.invariant.smaller;
  rest = proper_step _ _ _ _ _ _ _ c.in-More.is c.get-left.ensures c.get.ensures c.if-not-test_type.ensures c.loop-left.invariant.rest;
}

pub test_type-test_type-requires-then-test_type : goal.test_type-test_type-requires-then-test_type
test_type-test_type-requires-then-test_type t c = (let r = second_size _ _ _ _ c.in-Prod.is c.get-then-test_type.ensures in let d = c.decreases in omega (arith, r, d), tt)
