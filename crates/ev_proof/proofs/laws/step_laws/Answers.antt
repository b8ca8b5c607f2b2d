use Rattle.ev_proof.proofs.LineLaws.{line_is_one_step}
use Rattle.ev_proof.proofs.laws.step_laws.Goals as goal

pub returns : goal.returns
returns c = line_is_one_step
