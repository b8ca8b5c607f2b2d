use Rattle.ev_sound.proofs.Whole.{steps_are_sound, complete_is_sound}
use Rattle.ev_sound.proofs.proof_laws.proofs_are_sound.Goals as goal

pub returns : goal.returns
returns c = record { steps = steps_are_sound; complete = complete_is_sound }
