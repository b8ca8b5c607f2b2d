use Rattle.ev_ops.proofs.UnfoldApplication.{unfolded_application as application_law}
use Rattle.ev_ops.proofs.unfold_laws.unfolded_application.Goals as goal

pub returns : goal.returns
returns c = application_law
