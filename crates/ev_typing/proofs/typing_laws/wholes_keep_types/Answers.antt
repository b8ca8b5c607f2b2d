use Rattle.ev_typing.proofs.Wholes.{whole_typed, whole_proper}
use Rattle.ev_typing.proofs.typing_laws.wholes_keep_types.Goals as goal

pub returns : goal.returns
returns c = record { typed = whole_typed; proper = whole_proper }
