use Rattle.ev_kernel.proofs.DerivationLaws.{whole_derivable}
use Rattle.ev_kernel.proofs.derivations.wholes_keep_derivable.Goals as goal

pub returns : goal.returns
returns c = whole_derivable
