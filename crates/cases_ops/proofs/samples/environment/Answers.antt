use Rattle.cases_ops.proofs.Declared.{alleq_is_new, alleq_is_good}
use Rattle.cases_ops.proofs.samples.environment.Goals as goal

pub add-requires-clause-new : goal.add-requires-clause-new
add-requires-clause-new c = alleq_is_new _ _ c.in_ok-env.ensures c.in_ok-entry.ensures

pub add-requires-clause-good : goal.add-requires-clause-good
add-requires-clause-good c = alleq_is_good _ _ c.in_ok-env.ensures c.in_ok-entry.ensures
