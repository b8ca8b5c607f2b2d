use Rattle.cases_infer.proofs.SampleProofs.{top_is_new, top_is_good}
use Rattle.cases_infer.proofs.samples.env_of_top.Goals as goal

pub add-requires-clause-new : goal.add-requires-clause-new
add-requires-clause-new c = top_is_new _ _ c.new-env.ensures c.in_ok-entry.ensures

pub add-requires-clause-good : goal.add-requires-clause-good
add-requires-clause-good c = top_is_good _ _ c.new-env.ensures c.in_ok-entry.ensures
