use Rattle.ev_typing.proofs.BaseSequents.{whole_base_sequents}
use Rattle.ev_typing.proofs.base_sequents.wholes_keep_base_sequents.Goals as goal

pub returns : goal.returns
returns c = whole_base_sequents
