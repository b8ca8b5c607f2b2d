use Rattle.ev_wd.proofs.Retyped.{instance_law}
use Rattle.ev_wd.proofs.condition_laws.condition_of_type_instance.Goals as goal

pub returns : goal.returns
returns c = instance_law
