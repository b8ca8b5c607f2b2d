use Rattle.ev_sound.proofs.Headlines.{proved_is_derivable}
use Rattle.ev_sound.proofs.status_laws.statuses_are_sound.Goals as goal

pub returns : goal.returns
returns c = proved_is_derivable
