use Rattle.ev_wd.proofs.Replaced.{subst_law}
use Rattle.ev_wd.proofs.condition_laws.condition_of_substitution.Goals as goal

pub returns : goal.returns
returns c = subst_law
