use Rattle.std.proofs.Common.{arith, true≢false, sym, ◌∙◌}
use Rattle.ev_terms.specs.Substitution.{type_at}
use Rattle.ev_terms.proofs.Children.{size_step, second_size}
use Rattle.ev_data.proofs.Occurring.{set_size, first_size, head_size}
use Rattle.ev_ops.proofs.Guarding.{inst_set, no_set, inst_pair, no_pair, insts_step, insts_other, insts_fewer, insts_end, insts_refused, insts_told, insts_joined, none_holds}
use Rattle.ev_ops.proofs.guards.+is_instance.Goals as goal

pub is_instance-returns-in-Some : goal.is_instance-returns-in-Some
is_instance-returns-in-Some t c =
    inst_set (type_at c.args.types.now) c.args.pattern.now c.args.ty.now c.in-Pow.a c.in-Some.b.now c.get.result.now c.is_instance.result c.in-Pow.is c.get.ensures c.in-Some.ensures.found c.is_instance.ensures

pub is_instance-returns-in-None : goal.is_instance-returns-in-None
is_instance-returns-in-None t c = no_set (type_at c.args.types.now) c.args.pattern.now c.args.ty.now c.in-Pow.a c.in-Pow.is c.in-None.ensures.none

pub is_instance-returns-in-Some-pair_parts : goal.is_instance-returns-in-Some-pair_parts
is_instance-returns-in-Some-pair_parts t c =
    inst_pair (type_at c.args.types.now) c.args.pattern.now c.args.ty.now c.in-Prod.a c.in-Prod.b c.get-in-Some-pair_parts.result.now c.get-in-Some-pair_parts-2.result.now c.in-Some-pair_parts.c.now c.in-Some-pair_parts.d.now
    c.both.result c.is_instance-in-Some-pair_parts.result c.is_instance-in-Some-pair_parts-2.result c.both.ensures c.in-Prod.is c.get-in-Some-pair_parts.ensures c.get-in-Some-pair_parts-2.ensures
    c.in-Some-pair_parts.ensures.found c.is_instance-in-Some-pair_parts.ensures c.is_instance-in-Some-pair_parts-2.ensures

pub is_instance-returns-in-None-pair_parts : goal.is_instance-returns-in-None-pair_parts
is_instance-returns-in-None-pair_parts t c =
    no_pair (type_at c.args.types.now) c.args.pattern.now c.args.ty.now c.in-Prod.a c.in-Prod.b c.in-Prod.is c.in-None-pair_parts.ensures.none

pub is_instance-is_instance-requires : goal.is_instance-is_instance-requires
is_instance-is_instance-requires t c = (let r = set_size _ _ _ c.in-Pow.is c.get.ensures in let d = c.decreases in omega (arith, r, d), tt)

pub is_instance-is_instance-requires-in-Some-pair_parts : goal.is_instance-is_instance-requires-in-Some-pair_parts
is_instance-is_instance-requires-in-Some-pair_parts t c =
    (let r = first_size _ _ _ _ c.in-Prod.is c.get-in-Some-pair_parts.ensures in let d = c.decreases in omega (arith, r, d), tt)

pub is_instance-is_instance-requires-in-Some-pair_parts-2 : goal.is_instance-is_instance-requires-in-Some-pair_parts-2
is_instance-is_instance-requires-in-Some-pair_parts-2 t c =
    (let r = second_size _ _ _ _ c.in-Prod.is c.get-in-Some-pair_parts-2.ensures in let d = c.decreases in omega (arith, r, d), tt)

pub are_instances-is_instance-requires : goal.are_instances-is_instance-requires
are_instances-is_instance-requires t c =
    (let r = head_size _ _ _ _ _ c.in-More.is c.get.ensures c.loop-left.invariant.smaller in let d = c.decreases in omega (arith, r, d), tt)

pub are_instances-returns-in_default-more_parts : goal.are_instances-returns-in_default-more_parts
are_instances-returns-in_default-more_parts t c =
    insts_refused _ _ c.loop-left.invariant.goes_on (insts_fewer (type_at c.args.types.now) _ _ _ _ c.in-More.is (none_holds _ c.more_parts.ensures.none c.in_default-more_parts.not-Some))

pub are_instances-returns-then-not-is_instance : goal.are_instances-returns-then-not-is_instance
are_instances-returns-then-not-is_instance t c =
    insts_refused _ _ c.loop-left.invariant.goes_on
    (insts_other (type_at c.args.types.now) _ _ _ _ _ _ _ c.in-More.is c.in-Some.ensures.found c.get.ensures (λ h. true≢false (sym (c.is_instance.ensures.1 h) ∙ c.if-not-is_instance.true)))

pub are_instances-loop-left-preserved : goal.are_instances-loop-left-preserved
are_instances-loop-left-preserved t c = record {
  smaller = size_step _ _ _ _ _ c.in-More.is c.get-left.ensures c.loop-left.invariant.smaller;
  goes_on =
      insts_joined _ _ _ c.loop-left.invariant.goes_on
      (insts_step (type_at c.args.types.now) _ _ _ _ _ _ _ _ c.in-More.is c.in-Some.ensures.found c.get.ensures c.get-left.ensures (c.is_instance.ensures.0 c.if-not-is_instance.false));
}

pub are_instances-returns : goal.are_instances-returns
are_instances-returns t c =
    insts_told _ _ _ c.loop-left.invariant.goes_on (insts_end (type_at c.args.types.now) c.loop-left.left.now c.loop-left.others.now _ c.in_default.not-More c.is_empty.ensures)
