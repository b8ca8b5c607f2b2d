use Rattle.cases_ops.proofs.Declared.{double_is_new, double_is_good}
use Rattle.cases_ops.proofs.samples.with_double.Goals as goal

pub add-requires-clause-new : goal.add-requires-clause-new
add-requires-clause-new c = double_is_new _ _ c.in_ok-env.ensures c.in_ok-entry.ensures

pub add-requires-clause-good : goal.add-requires-clause-good
add-requires-clause-good c = double_is_good _ _ c.in_ok-env.ensures c.in_ok-entry.ensures
