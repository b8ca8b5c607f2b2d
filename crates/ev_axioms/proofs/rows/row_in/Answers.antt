use Rattle.ev_axioms.proofs.Groups.{row_read, row_after}
use Rattle.ev_axioms.proofs.rows.row_in.Goals as goal

pub returns-then-left-group : goal.returns-then-left-group
returns-then-left-group c = row_read c.args.groups.now c.loop-group.group-index c.loop-group.left _ _ _ c.loop-group-test.true c.if-left-group.true c.loop-group.invariant

pub loop-group-preserved : goal.loop-group-preserved
loop-group-preserved c = row_after c.args.groups.now c.loop-group.group-index c.loop-group.left _ _ c.loop-group-test.true c.if-left-group.false c.loop-group.invariant
