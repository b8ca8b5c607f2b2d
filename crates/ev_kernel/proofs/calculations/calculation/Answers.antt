use Rattle.std.proofs.Common.{refl}
use Rattle.ev_kernel.proofs.calculations.calculation.Goals as goal

pub returns : goal.returns
returns c = (λ y. (refl, c.is_calculated.ensures.0 y), λ h. c.is_calculated.ensures.1 h.1)
