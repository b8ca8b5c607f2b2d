use Rattle.ev_ops.proofs.Fitting.{shift_unfolded, subst_unfolded, instance_unfolded}
use Rattle.ev_ops.proofs.unfold_laws.unfolding_commutes.Goals as goal

pub returns-clause-shift : goal.returns-clause-shift
returns-clause-shift c = shift_unfolded

pub returns-clause-substitute : goal.returns-clause-substitute
returns-clause-substitute c = subst_unfolded

pub returns-clause-instantiate : goal.returns-clause-instantiate
returns-clause-instantiate c = instance_unfolded
