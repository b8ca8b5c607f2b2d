use Rattle.std.proofs.lemmas.Result.{IfOk-weaker}
use Rattle.ev_syntax.proofs.Progress.{pattern_answer}
use Rattle.ev_syntax.proofs.pattern_reader.read_pattern.Goals as goal

pub returns : goal.returns
returns c = IfOk-weaker c.run.result _ _ (λ o h. pattern_answer c.args.limit c.args.reader.now c.args.at o c.requires h) c.run.ensures
