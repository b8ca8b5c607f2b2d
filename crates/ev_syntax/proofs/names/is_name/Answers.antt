-- What is no UTF-8 is no name.
use Rattle.ev_syntax.proofs.NameLemmas.{bytes_no_name}
use Rattle.ev_syntax.proofs.names.is_name.Goals as goal

pub returns-in-Err : goal.returns-in-Err
returns-in-Err c = bytes_no_name c.args.bytes.now c.in-Err.ensures.cases.0
