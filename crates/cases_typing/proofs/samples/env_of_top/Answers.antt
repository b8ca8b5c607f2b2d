use Rattle.cases_typing.proofs.SampleProofs.{top_to_empty, top_over_empty, top_made}
use Rattle.cases_typing.proofs.samples.env_of_top.Goals as goal

pub add-requires-clause-new : goal.add-requires-clause-new
add-requires-clause-new c = top_to_empty _ _ c.new-env.ensures (top_made _ _ c.in_ok-from_slice.ensures c.in_ok-body.ensures)

pub add-requires-clause-good : goal.add-requires-clause-good
add-requires-clause-good c = top_over_empty _ _ c.new-env.ensures (top_made _ _ c.in_ok-from_slice.ensures c.in_ok-body.ensures)
