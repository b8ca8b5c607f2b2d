use Rattle.std.proofs.Common.{arith}
use Rattle.ev_terms.proofs.Children.{size_step, second_size}
use Rattle.ev_ops.proofs.WeightLaws.{pow_added, prod_added, data_added, types_step}
use Rattle.ev_ops.proofs.weights.Weights.+add_type.Goals as goal

pub add_type-returns-in-Pow : goal.add_type-returns-in-Pow
add_type-returns-in-Pow t c =
    pow_added c.args.self.now c.add_own.new.self c.add_type.new.self c.args.ty.now c.in-Pow.a c.get.result.now c.args.at c.below.result c.in-Pow.is c.get.ensures c.add_own.ensures c.below.ensures
    c.add_type.ensures

pub add_type-returns-in-Prod : goal.add_type-returns-in-Prod
add_type-returns-in-Prod t c =
    prod_added c.args.self.now c.add_own-in-Prod.new.self c.add_type-in-Prod.new.self c.add_type-in-Prod-2.new.self c.args.ty.now c.in-Prod.a c.in-Prod.b c.get-in-Prod.result.now
    c.get-in-Prod-2.result.now c.args.at c.below-inside.result c.in-Prod.is c.get-in-Prod.ensures c.get-in-Prod-2.ensures c.add_own-in-Prod.ensures c.below-inside.ensures c.add_type-in-Prod.ensures
    c.add_type-in-Prod-2.ensures

pub add_type-returns-in-Data : goal.add_type-returns-in-Data
add_type-returns-in-Data t c =
    data_added c.args.self.now c.add_own-in-Data.new.self c.add_types.new.self c.args.ty.now c.in-Data.field-0 c.in-Data.types c.args.at c.below-in-Data.result c.in-Data.is c.add_own-in-Data.ensures
    c.below-in-Data.ensures c.add_types.ensures

pub add_types-loop-left-preserved : goal.add_types-loop-left-preserved
add_types-loop-left-preserved t c = record {
  smaller = size_step _ _ _ _ _ c.in-More.is c.get-left.ensures c.loop-left.invariant.smaller;
  goes_on = λ new h. c.loop-left.invariant.goes_on new
      (types_step c.loop-left.self c.add_type.new.self new c.loop-left.left.now c.in-More.rest c.get-left.result.now c.in-More.ty c.get.result.now c.args.at c.in-More.is c.get-left.ensures
      c.get.ensures c.add_type.ensures h);
}

pub add_type-add_type-requires-in-Prod-2 : goal.add_type-add_type-requires-in-Prod-2
add_type-add_type-requires-in-Prod-2 t c = (let r = second_size _ _ _ _ c.in-Prod.is c.get-in-Prod-2.ensures in let d = c.decreases in omega (arith, r, d), tt)
