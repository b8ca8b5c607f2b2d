use Rattle.cases_wd.proofs.SampleProofs.{new_to_empty, good_over_empty}
use Rattle.cases_wd.proofs.samples.env_of_lists.Goals as goal

pub add-requires-clause-new : goal.add-requires-clause-new
add-requires-clause-new c = new_to_empty _ _ c.new-env.ensures c.in_ok-decl.ensures

pub add-requires-clause-good : goal.add-requires-clause-good
add-requires-clause-good c = good_over_empty _ _ c.new-env.ensures c.in_ok-decl.ensures
