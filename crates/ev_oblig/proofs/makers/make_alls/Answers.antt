use Rattle.std.proofs.Common.{◌-◌, refl, arith}
use Rattle.ev_oblig.proofs.Quantifying.{alls_step}
use Rattle.ev_oblig.proofs.makers.make_alls.Goals as goal

pub loop-left-preserved : goal.loop-left-preserved
loop-left-preserved c = record {
  within = omega arith;
  so_far =
      alls_step c.args.types.now c.loop-left.tree c.in_ok-tree.tree _ c.loop-left.left (c.loop-left.left - 1) c.index-types-left.result (omega arith) refl c.index-types-left.is (omega arith)
      c.in_ok-tree.ensures c.loop-left.invariant.so_far;
}
