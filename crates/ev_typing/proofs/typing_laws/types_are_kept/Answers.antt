use Rattle.ev_typing.proofs.Keeps.{shift_typed, inst_typed, subst_typed, fill_typed}
use Rattle.ev_typing.proofs.TypeInstances.{instance_typed}
use Rattle.ev_typing.proofs.typing_laws.types_are_kept.Goals as goal

pub returns : goal.returns
returns c = record { shift = shift_typed; inst = inst_typed; substitute = subst_typed; arguments = fill_typed; instantiate = instance_typed }
