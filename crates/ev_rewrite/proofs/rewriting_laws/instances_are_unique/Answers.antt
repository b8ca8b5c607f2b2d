use Rattle.ev_rewrite.proofs.MatchLaws.{match_unique}
use Rattle.ev_rewrite.proofs.rewriting_laws.instances_are_unique.Goals as goal

pub returns : goal.returns
returns c = match_unique
