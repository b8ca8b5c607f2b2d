use Rattle.ev_ops.proofs.OverWhole.{over_whole}
use Rattle.ev_ops.proofs.unfold_laws.wholes_keep_unfolding.Goals as goal

pub returns : goal.returns
returns c = over_whole
