use Rattle.ev_typing.proofs.ProperSignatures.{signatures_proper}
use Rattle.ev_typing.proofs.typing_laws.signatures_are_proper.Goals as goal

pub returns : goal.returns
returns c = signatures_proper
