use Rattle.std.proofs.Common.{arith}
use Rattle.ev_typing.proofs.PlaceLaws.{put_step}
use Rattle.ev_typing.proofs.environment.places.put_from_end.Goals as goal

pub loop-pair-preserved : goal.loop-pair-preserved
loop-pair-preserved c = record {
  room = omega (arith, c.in-Ok.ensures.spare, c.in-Some.ensures.cases, c.loop-pair.invariant.room);
  put = λ d. put_step _ _ _ _ _ c.in-Some.pair c.in-Some.ensures.items c.in-Ok.ensures.entries d (c.loop-pair.invariant.put d);
}
