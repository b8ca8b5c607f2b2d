use Rattle.std.proofs.lemmas.Result.{IfOk-weaker}
use Rattle.ev_parse.proofs.FormulaProgress.{goal_answer}
use Rattle.ev_parse.proofs.machine.read_goal.Goals as goal

pub returns : goal.returns
returns c = IfOk-weaker c.run.result _ _ (λ o h. goal_answer c.args.limit c.args.reader.now c.args.at c.args.goal o c.requires.inside c.requires.level h) c.run.ensures
