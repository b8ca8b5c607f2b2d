use Rattle.ev_ops.proofs.Keeping.{unfolded_typed}
use Rattle.ev_ops.proofs.Basing.{sequent_over_base}
use Rattle.ev_ops.proofs.BaseGood.{base_well_formed}
use Rattle.ev_ops.proofs.unfold_laws.unfolded_keeps_types.Goals as goal

pub returns-clause-typed : goal.returns-clause-typed
returns-clause-typed c = unfolded_typed

pub returns-clause-over_base : goal.returns-clause-over_base
returns-clause-over_base c = sequent_over_base

pub returns-clause-well_formed : goal.returns-clause-well_formed
returns-clause-well_formed c = base_well_formed
