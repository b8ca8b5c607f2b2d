use Rattle.std.proofs.Common.{[], sym, subst}
use Rattle.std.specs.Prelude.{◌↔◌, IsTrue}
use Rattle.ev_kernel.specs.Row.{Row}
use Rattle.ev_kernel.proofs.rules.concludes_plainly.Goals as goal

pub returns-in-Calc : goal.returns-in-Calc
returns-in-Calc c env = subst (λ rule. IsTrue c.calculation.result ↔ Row env [] rule c.args.conclusion.now) (sym c.in-Calc.is) c.calculation.ensures
