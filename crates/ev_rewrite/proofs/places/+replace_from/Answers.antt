use Rattle.ev_rewrite.proofs.PlaceSteps.{number_within}
use Rattle.ev_rewrite.proofs.places.+replace_from.Goals as goal

pub with_child-requires-clause-within : goal.with_child-requires-clause-within
with_child-requires-clause-within t c = number_within c.args.tree.now c.in-Some-child_at.child.now c.in-Some.number.now c.in-Some-child_at.ensures
