use Rattle.std.proofs.Common.{refl}
use Rattle.ev_rewrite.proofs.SlotSteps.{put_known, put_free}
use Rattle.ev_rewrite.proofs.slots.put.Goals as goal

pub returns-in-Some : goal.returns-in-Some
returns-in-Some g c =
    put_known c.args.slots.now.items c.args.at c.index.result.now c.in-Some.known c.args.value c.same.result c.requires c.index.ensures c.in-Some.is c.same.ensures

pub returns : goal.returns
returns g c = (put_free c.args.slots.now.items c.args.at c.index.result.now c.args.value c.requires c.index.ensures c.in_default.is, refl)
