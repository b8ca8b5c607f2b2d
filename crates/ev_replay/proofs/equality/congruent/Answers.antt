use Rattle.ev_replay.proofs.Equations.{congruent_at}
use Rattle.ev_replay.proofs.equality.congruent.Goals as goal

pub returns : goal.returns
returns c =
    congruent_at c.args.env.now c.args.goal.now c.in_ok-inner.inner c.args.left.now c.args.right.now c.in-Some-Some.sym.now c.in-Some-Some.other.now c.in-Some-Some.types.now c.in-Some-Some.others.now
    c.in-Some-Some.lefts.now c.in-Some-Some.rights.now c.equations.result c.in-Some-Some.ensures.found c.in-Some-Some.ensures'.found (c.same.ensures.0 c.if-not-same.false)
    (c.same-else-not-same.ensures.0 c.if-not-same-2.false) c.in_ok-inner.ensures c.equations.ensures
