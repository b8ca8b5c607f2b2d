use Rattle.ev_typing.proofs.Laws.{Typed-unique}
use Rattle.ev_typing.proofs.typing_laws.type_is_unique.Goals as goal

pub returns : goal.returns
returns c = Typed-unique
