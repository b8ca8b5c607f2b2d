use Rattle.std.proofs.Common.{◌-◌, refl, arith}
use Rattle.ev_data.proofs.Lists.{forall_step}
use Rattle.ev_data.proofs.parts.make_for_all.Goals as goal

pub loop-left-preserved : goal.loop-left-preserved
loop-left-preserved c = record {
  within = omega arith;
  so_far =
      forall_step c.args.types.now c.loop-left.tree c.in_ok-tree.tree _ c.loop-left.left (c.loop-left.left - 1) c.index-types-left.result c.in_ok-try_copy.field-0 (omega arith) refl
      c.index-types-left.is (omega arith) c.in_ok-try_copy.ensures c.in_ok-tree.ensures c.loop-left.invariant.so_far;
}
