use Rattle.ev_elab.proofs.LawfulElements.{theory_is_sound}
use Rattle.ev_elab.proofs.theory_laws.theories_are_sound.Goals as goal

pub returns : goal.returns
returns c = theory_is_sound
