use Rattle.ev_wd.proofs.Replaced.{shift_law}
use Rattle.ev_wd.proofs.condition_laws.condition_of_shift.Goals as goal

pub returns : goal.returns
returns c = shift_law
