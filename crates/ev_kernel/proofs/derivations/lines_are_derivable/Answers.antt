use Rattle.ev_kernel.proofs.DerivationLaws.{derivation_derivable, derivable_derivation}
use Rattle.ev_kernel.proofs.derivations.lines_are_derivable.Goals as goal

pub returns : goal.returns
returns c = record { each = derivation_derivable; all = derivable_derivation }
