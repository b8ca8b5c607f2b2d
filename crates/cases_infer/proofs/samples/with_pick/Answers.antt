use Rattle.cases_infer.proofs.SampleProofs.{pick_is_new, pick_is_good}
use Rattle.cases_infer.proofs.samples.with_pick.Goals as goal

pub add-requires-clause-new : goal.add-requires-clause-new
add-requires-clause-new c = pick_is_new _ _ c.in_ok-env.ensures c.in_ok-entry.ensures

pub add-requires-clause-good : goal.add-requires-clause-good
add-requires-clause-good c = pick_is_good _ _ c.in_ok-env.ensures c.in_ok-entry.ensures
