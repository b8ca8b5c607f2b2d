use Rattle.cases_samples.proofs.Declared.{first_new, first_good, first_added, second_new, second_good, second_added, third_new, third_good}
use Rattle.cases_samples.proofs.samples.environment.Goals as goal

pub add-requires-clause-new : goal.add-requires-clause-new
add-requires-clause-new c = first_new _ _ c.new-env.ensures c.in_ok-list.ensures

pub add-requires-clause-good : goal.add-requires-clause-good
add-requires-clause-good c = first_good _ _ c.new-env.ensures c.in_ok-list.ensures

pub add-requires-2-clause-new : goal.add-requires-2-clause-new
add-requires-2-clause-new c =
    second_new _ _ (first_added _ _ _ c.new-env.ensures c.in_ok-list.ensures c.in_ok-add.ensures.ok) c.in_ok-tree.ensures

pub add-requires-2-clause-good : goal.add-requires-2-clause-good
add-requires-2-clause-good c =
    second_good _ _ (first_added _ _ _ c.new-env.ensures c.in_ok-list.ensures c.in_ok-add.ensures.ok) c.in_ok-tree.ensures

pub add-requires-3-clause-new : goal.add-requires-3-clause-new
add-requires-3-clause-new c =
    third_new _ _ (second_added _ _ _ (first_added _ _ _ c.new-env.ensures c.in_ok-list.ensures c.in_ok-add.ensures.ok) c.in_ok-tree.ensures c.in_ok-add-2.ensures.ok) c.in_ok-len.ensures

pub add-requires-3-clause-good : goal.add-requires-3-clause-good
add-requires-3-clause-good c =
    third_good _ _ (second_added _ _ _ (first_added _ _ _ c.new-env.ensures c.in_ok-list.ensures c.in_ok-add.ensures.ok) c.in_ok-tree.ensures c.in_ok-add-2.ensures.ok) c.in_ok-len.ensures
