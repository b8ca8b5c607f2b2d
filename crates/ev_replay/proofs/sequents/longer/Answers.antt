use Rattle.ev_terms.specs.Types.{type_list}
use Rattle.ev_replay.proofs.Contexts.{longer_made}
use Rattle.ev_replay.proofs.sequents.longer.Goals as goal

pub returns : goal.returns
returns c =
    longer_made c.in_ok-list.list c.loop-ty.all.items (type_list c.args.context.now) c.args.more.now c.loop-ty.ty-index c.in_ok-list.ensures c.loop-ty.invariant c.loop-ty-test.false
