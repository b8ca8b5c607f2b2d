use Rattle.std.proofs.Common.{◌-◌, refl, arith}
use Rattle.ev_data.proofs.Lists.{own_step}
use Rattle.ev_data.proofs.parts.make_own_types.Goals as goal

pub loop-left-preserved : goal.loop-left-preserved
loop-left-preserved c = record {
  within = omega arith;
  so_far =
      own_step c.loop-left.list _ c.in_ok-first.first c.in_ok-new.field-0 c.loop-left.left (c.loop-left.left - 1) c.args.n (omega arith) refl c.loop-left.invariant.within c.in_ok-first.ensures
      c.in_ok-new.ensures refl c.loop-left.invariant.so_far;
}
