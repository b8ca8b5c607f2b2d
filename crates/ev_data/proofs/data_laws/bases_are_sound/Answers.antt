use Rattle.ev_data.proofs.Bases.{base_is_sound, base_of_base}
use Rattle.ev_data.proofs.data_laws.bases_are_sound.Goals as goal

pub returns-clause-sound : goal.returns-clause-sound
returns-clause-sound c = base_is_sound

pub returns-clause-part : goal.returns-clause-part
returns-clause-part c = base_of_base
