use Rattle.ev_unify.proofs.Joining.{joins_flip}
use Rattle.ev_unify.proofs.cells.Cells.join_roots.Goals as goal

pub returns-clause-ok : goal.returns-clause-ok
returns-clause-ok c = joins_flip c.args.self.now.pats.items c.args.self.now.firsts.items c.args.links.now c.args.work.now.items _ _ c.args.b c.args.a c.in_ok-link-2.ensures.ok
