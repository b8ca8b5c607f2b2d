-- The law.
use Rattle.ev_print.proofs.Back.{text_reads_back}
use Rattle.ev_print.proofs.laws.text_reads_back.Goals as goal

pub returns : goal.returns
returns c = text_reads_back
