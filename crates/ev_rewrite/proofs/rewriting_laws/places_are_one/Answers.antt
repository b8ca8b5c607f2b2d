use Rattle.ev_rewrite.proofs.PlaceProofs.{places_agree, replaced_by_itself, new_is_there}
use Rattle.ev_rewrite.proofs.rewriting_laws.places_are_one.Goals as goal

pub returns-clause-agree : goal.returns-clause-agree
returns-clause-agree c = places_agree

pub returns-clause-itself : goal.returns-clause-itself
returns-clause-itself c = replaced_by_itself

pub returns-clause-there : goal.returns-clause-there
returns-clause-there c = new_is_there
