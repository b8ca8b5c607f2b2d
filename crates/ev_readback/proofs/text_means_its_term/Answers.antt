-- The law.
use Rattle.ev_readback.proofs.LawProofs.{means_its_term}
use Rattle.ev_readback.proofs.text_means_its_term.Goals as goal

pub returns : goal.returns
returns c = means_its_term
