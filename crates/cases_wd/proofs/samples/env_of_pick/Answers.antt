use Rattle.cases_wd.proofs.SampleProofs.{pick_to_empty, pick_over_empty}
use Rattle.cases_wd.proofs.samples.env_of_pick.Goals as goal

pub add-requires-clause-new : goal.add-requires-clause-new
add-requires-clause-new c = pick_to_empty _ _ c.new-env.ensures c.in_ok-entry.ensures

pub add-requires-clause-good : goal.add-requires-clause-good
add-requires-clause-good c = pick_over_empty _ _ c.new-env.ensures c.in_ok-entry.ensures
