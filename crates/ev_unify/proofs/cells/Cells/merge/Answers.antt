use Rattle.std.proofs.lemmas.Result.{err_from_is_err_and}
use Rattle.ev_unify.specs.inner.Links.{NeverLinked, NeverJoined}
use Rattle.ev_unify.proofs.Merging.{merge_more, merge_never, merge_left, merge_right}
use Rattle.ev_unify.proofs.Faults.{clash_weaker}
use Rattle.ev_unify.proofs.cells.Cells.merge.Goals as goal

pub join-requires-clause-left : goal.join-requires-clause-left
join-requires-clause-left c =
    merge_left c.args.self.now.pats.items c.args.self.now.firsts.items c.args.links.now c.args.work.items c.loop-couple.links c.loop-couple.work.items c.pop.new.self.items c.in-Some.couple c.loop-couple.invariant c.in-Some.ensures.items

pub join-requires-clause-right : goal.join-requires-clause-right
join-requires-clause-right c =
    merge_right c.args.self.now.pats.items c.args.self.now.firsts.items c.args.links.now c.args.work.items c.loop-couple.links c.loop-couple.work.items c.pop.new.self.items c.in-Some.couple c.loop-couple.invariant c.in-Some.ensures.items

pub loop-couple-preserved : goal.loop-couple-preserved
loop-couple-preserved c =
    merge_more c.args.self.now.pats.items c.args.self.now.firsts.items c.args.links.now c.args.work.items c.loop-couple.links c.loop-couple.work.items c.pop.new.self.items c.in-Some.couple _ _ c.loop-couple.invariant c.in-Some.ensures.items c.in_ok-join.ensures.ok

pub returns-in_err-join-clause-err : goal.returns-in_err-join-clause-err
returns-in_err-join-clause-err c =
    let p = err_from_is_err_and c.from_residual.result c.from_residual.ensures.1 in rw (p.1, p.2)
    (clash_weaker (NeverLinked c.args.self.now.pats.items c.loop-couple.links c.in-Some.couple.left c.in-Some.couple.right) (NeverJoined c.args.self.now.pats.items c.args.links.now c.args.work.items) _
    (merge_never c.args.self.now.pats.items c.args.self.now.firsts.items c.args.links.now c.args.work.items c.loop-couple.links c.loop-couple.work.items c.pop.new.self.items c.in-Some.couple c.loop-couple.invariant c.in-Some.ensures.items)
    c.in_err-join.ensures.err)
