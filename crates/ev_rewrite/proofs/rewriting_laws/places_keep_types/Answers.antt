use Rattle.ev_rewrite.proofs.PlaceProofs.{nodes_are_typed, replacing_keeps_types}
use Rattle.ev_rewrite.proofs.rewriting_laws.places_keep_types.Goals as goal

pub returns-clause-typed : goal.returns-clause-typed
returns-clause-typed c = nodes_are_typed

pub returns-clause-kept : goal.returns-clause-kept
returns-clause-kept c = replacing_keeps_types
