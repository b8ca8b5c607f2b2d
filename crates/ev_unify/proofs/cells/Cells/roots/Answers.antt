use Rattle.ev_unify.proofs.Partition.{roots_more}
use Rattle.ev_unify.proofs.cells.Cells.roots.Goals as goal

pub loop-i-preserved : goal.loop-i-preserved
loop-i-preserved c =
    roots_more c.args.self.now.pats.items c.args.self.now.firsts.items c.args.links.now c.loop-i.links c.loop-i.roots.items c.loop-i.i c.root.new.links _ c.root.result c.loop-i.invariant c.root.ensures.shortens c.root.ensures.root c.in_ok-append.ensures.ok
