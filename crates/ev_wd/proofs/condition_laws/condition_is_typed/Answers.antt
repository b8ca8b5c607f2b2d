use Rattle.ev_wd.proofs.Typedness.{typed_law}
use Rattle.ev_wd.proofs.condition_laws.condition_is_typed.Goals as goal

pub returns : goal.returns
returns c = typed_law
