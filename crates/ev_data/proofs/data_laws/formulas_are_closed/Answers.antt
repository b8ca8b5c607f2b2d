use Rattle.ev_data.proofs.Formulas.{destructors_typed, distinctness_typed}
use Rattle.ev_data.proofs.Recursions.{recursion_typed}
use Rattle.ev_data.proofs.data_laws.formulas_are_closed.Goals as goal

pub returns-clause-destructors : goal.returns-clause-destructors
returns-clause-destructors c = destructors_typed

pub returns-clause-distinctness : goal.returns-clause-distinctness
returns-clause-distinctness c = distinctness_typed

pub returns-clause-recursion : goal.returns-clause-recursion
returns-clause-recursion c = recursion_typed
