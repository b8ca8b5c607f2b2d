use Rattle.cases_infer.proofs.SampleProofs.{list_is_new, list_is_good}
use Rattle.cases_infer.proofs.samples.env_of_lists.Goals as goal

pub add-requires-clause-new : goal.add-requires-clause-new
add-requires-clause-new c = list_is_new _ _ c.new-env.ensures c.in_ok-decl.ensures

pub add-requires-clause-good : goal.add-requires-clause-good
add-requires-clause-good c = list_is_good _ _ c.new-env.ensures c.in_ok-decl.ensures
