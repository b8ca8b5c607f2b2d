use Rattle.std.proofs.Common.{refl}
use Rattle.ev_unify.proofs.Forest.{walk_more}
use Rattle.ev_unify.proofs.cells.Cells.root.Goals as goal

pub loop-links-preserved : goal.loop-links-preserved
loop-links-preserved c = walk_more c.args.self.now.pats.items c.args.self.now.firsts.items c.args.links.now c.args.part c.loop-links.links c.loop-links.i _ c.loop-links.invariant c.loop-links-test.true refl
