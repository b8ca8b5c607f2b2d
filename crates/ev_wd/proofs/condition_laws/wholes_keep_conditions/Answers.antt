use Rattle.ev_wd.proofs.Widened.{whole_law}
use Rattle.ev_wd.proofs.condition_laws.wholes_keep_conditions.Goals as goal

pub returns : goal.returns
returns c = whole_law
