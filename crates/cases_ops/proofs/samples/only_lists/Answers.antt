use Rattle.cases_samples.proofs.Declared.{first_new, first_good}
use Rattle.cases_ops.proofs.samples.only_lists.Goals as goal

pub add-requires-clause-new : goal.add-requires-clause-new
add-requires-clause-new c = first_new _ _ c.new-env.ensures c.in_ok-list.ensures

pub add-requires-clause-good : goal.add-requires-clause-good
add-requires-clause-good c = first_good _ _ c.new-env.ensures c.in_ok-list.ensures
