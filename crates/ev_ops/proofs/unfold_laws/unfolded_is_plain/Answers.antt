use Rattle.ev_ops.proofs.UnfoldLaws.{unfolded_is_plain as plain_law}
use Rattle.ev_ops.proofs.OverWhole.{plain_unfolded}
use Rattle.ev_ops.proofs.unfold_laws.unfolded_is_plain.Goals as goal

pub returns-clause-plain : goal.returns-clause-plain
returns-clause-plain c = plain_law

pub returns-clause-unchanged : goal.returns-clause-unchanged
returns-clause-unchanged c = plain_unfolded
