use Rattle.std.proofs.Common.{rules}
use Rattle.ev_oblig.proofs.Quantifying.{lowered_answer}
use Rattle.ev_oblig.proofs.makers.lowered.Goals as goal

pub returns : goal.returns
returns c = lowered_answer c.substitute.result c.args.body.now _ c.requires (search rules) c.substitute.ensures
