use Rattle.std.proofs.lemmas.Result.{err_from_is_err_and}
use Rattle.ev_unify.specs.inner.Links.{NeverSame, NeverLinked}
use Rattle.ev_unify.proofs.Joining.{joins_after, never_after}
use Rattle.ev_unify.proofs.Faults.{clash_weaker}
use Rattle.ev_unify.proofs.cells.Cells.join.Goals as goal

pub returns-in_err-join_roots-clause-err : goal.returns-in_err-join_roots-clause-err
returns-in_err-join_roots-clause-err c =
    let p = err_from_is_err_and c.from_residual.result c.from_residual.ensures.1 in rw (p.1, p.2)
    (clash_weaker (NeverSame c.args.self.now.pats.items c.root-a.result c.root-b.result) (NeverLinked c.args.self.now.pats.items c.args.links.now c.args.couple.left c.args.couple.right) _
    (never_after c.args.self.now.pats.items c.args.self.now.firsts.items c.args.links.now c.root-a.new.links c.root-b.new.links c.args.couple.left c.args.couple.right c.root-a.result c.root-b.result c.root-a.ensures.shortens c.root-a.ensures.root c.root-b.ensures.shortens c.root-b.ensures.root)
    c.in_err-join_roots.ensures.err)

pub returns-clause-ok : goal.returns-clause-ok
returns-clause-ok c =
    joins_after c.args.self.now.pats.items c.args.self.now.firsts.items c.args.links.now c.root-a.new.links c.root-b.new.links c.args.work.now.items _ _ c.args.couple.left c.args.couple.right c.root-a.result c.root-b.result c.root-a.ensures.shortens c.root-a.ensures.root c.root-b.ensures.shortens c.root-b.ensures.root c.in_ok-join_roots.ensures.ok
