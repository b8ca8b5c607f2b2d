use Rattle.std.proofs.lemmas.Result.{IfOk-weaker}
use Rattle.ev_parse.proofs.FormulaProgress.{as_predicate}
use Rattle.ev_parse.proofs.formula_reader.read_predicate.Goals as goal

pub returns : goal.returns
returns c = IfOk-weaker c.read_goal.result _ _ (λ o h. as_predicate c.args.limit c.args.reader.now c.args.at o h) c.read_goal.ensures
