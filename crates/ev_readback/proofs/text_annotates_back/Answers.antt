use Rattle.ev_readback.proofs.LawProofs.{annotates_back}
use Rattle.ev_readback.proofs.text_annotates_back.Goals as goal

pub returns : goal.returns
returns c = annotates_back
