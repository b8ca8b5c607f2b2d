use Rattle.std.proofs.lemmas.Result.{IfOk-weaker}
use Rattle.ev_syntax.proofs.Progress.{type_answer}
use Rattle.ev_syntax.proofs.type_reader.read_type.Goals as goal

pub returns : goal.returns
returns c = IfOk-weaker c.run.result _ _ (λ o h. type_answer c.args.limit c.args.reader.now c.args.at o c.requires h) c.run.ensures
