use Rattle.std.proofs.Common.{◌-◌, ◌∙◌, refl, arith}
use Rattle.ev_data.proofs.Lists.{types_step}
use Rattle.ev_data.proofs.parts.make_types.Goals as goal

pub loop-left-preserved : goal.loop-left-preserved
loop-left-preserved c = record {
  within = omega arith;
  so_far =
      types_step c.args.all.now c.loop-left.list _ c.loop-left.left (c.loop-left.left - 1) c.index-all-left.result c.in_ok-first.first c.in_ok-new.field-0 (omega arith) refl c.index-all-left.is
      (omega arith) (c.in_ok-first.ensures ∙ c.in_ok-try_copy.ensures) c.in_ok-new.ensures refl c.loop-left.invariant.so_far;
}
