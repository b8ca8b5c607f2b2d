use Rattle.ev_axioms.proofs.AxiomTypes.{axioms_closed, axioms_base}
use Rattle.ev_axioms.proofs.axioms.axioms_are_closed.Goals as goal

pub returns-clause-closed : goal.returns-clause-closed
returns-clause-closed c = axioms_closed

pub returns-clause-base : goal.returns-clause-base
returns-clause-base c = axioms_base
