use Rattle.std.proofs.Common.{refl}
use Rattle.ev_axioms.specs.inner.Rows.{all_steps}
use Rattle.ev_axioms.proofs.rows.groups.Goals as goal

pub returns : goal.returns
unfolding all_steps
returns c = refl
