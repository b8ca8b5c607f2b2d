use Rattle.ev_wd.proofs.Sketching.{body_is_true}
use Rattle.ev_wd.proofs.sketches.+is_of_truth.Goals as goal

pub returns-in-Lowered : goal.returns-in-Lowered
returns-in-Lowered t c =
    body_is_true c.args.sketch.now c.in-Lowered.body c.get.result.now c.is_of_truth.result c.in-Lowered.is c.get.ensures c.is_of_truth.ensures
