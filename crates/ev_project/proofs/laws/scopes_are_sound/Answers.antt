use Rattle.ev_project.proofs.LawProofs.{scopes_sound}
use Rattle.ev_project.proofs.laws.scopes_are_sound.Goals as goal

pub returns : goal.returns
returns c = scopes_sound
