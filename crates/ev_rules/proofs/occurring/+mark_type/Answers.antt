use Rattle.std.proofs.Common.{ap, arith}
use Rattle.ev_terms.proofs.Children.{size_step, second_size}
use Rattle.ev_typing.specs.Occurs.{has_param}
use Rattle.ev_rules.proofs.Marking.{at_none, at_set, at_pair, types_done, types_more}
use Rattle.ev_rules.proofs.occurring.+mark_type.Goals as goal

pub mark_type-returns-in-Pow : goal.mark_type-returns-in-Pow
mark_type-returns-in-Pow t c = at_set c.args.ty.now c.in-Pow.a c.get.result.now c.args.marks.now c.mark_type.new.marks c.in-Pow.is c.get.ensures c.mark_type.ensures

pub mark_type-returns-in-Prod : goal.mark_type-returns-in-Prod
mark_type-returns-in-Prod t c =
    at_pair c.args.ty.now c.in-Prod.a c.in-Prod.b c.get-in-Prod.result.now c.get-in-Prod-2.result.now c.args.marks.now c.mark_type-in-Prod.new.marks c.mark_type-in-Prod-2.new.marks
    c.in-Prod.is c.get-in-Prod.ensures c.get-in-Prod-2.ensures c.mark_type-in-Prod.ensures c.mark_type-in-Prod-2.ensures

pub mark_types-loop-left-preserved : goal.mark_types-loop-left-preserved
mark_types-loop-left-preserved t c = record {
  smaller = size_step _ _ _ _ _ c.in-More.is c.get-left.ensures c.loop-left.invariant.smaller;
  goes_on =
      types_more c.loop-left.left.now c.in-More.rest c.get-left.result.now c.in-More.a c.get.result.now c.loop-left.marks c.mark_type.new.marks _ c.in-More.is c.get-left.ensures c.get.ensures
      c.mark_type.ensures c.loop-left.invariant.goes_on;
}

pub mark_types-returns : goal.mark_types-returns
mark_types-returns t c = types_done _ _ c.loop-left.left.now c.in_default.not-More c.loop-left.invariant.goes_on

pub mark_type-mark_type-requires-in-Prod-2 : goal.mark_type-mark_type-requires-in-Prod-2
mark_type-mark_type-requires-in-Prod-2 t c = let r = second_size _ _ _ _ c.in-Prod.is c.get-in-Prod-2.ensures in let d = c.decreases in omega (arith, r, d)

pub mark_type-returns-in-Int : goal.mark_type-returns-in-Int
mark_type-returns-in-Int t c = at_none c.args.ty.now c.args.marks.now (λ i. ap (has_param i) c.in-Int.is)

pub mark_type-returns-in-Bool : goal.mark_type-returns-in-Bool
mark_type-returns-in-Bool t c = at_none c.args.ty.now c.args.marks.now (λ i. ap (has_param i) c.in-Bool.is)

pub mark_type-returns-in-Prop : goal.mark_type-returns-in-Prop
mark_type-returns-in-Prop t c = at_none c.args.ty.now c.args.marks.now (λ i. ap (has_param i) c.in-Prop.is)
