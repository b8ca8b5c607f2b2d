use Rattle.std.proofs.Common.{sym, ◌∙◌, arith}
use Rattle.ev_parse.proofs.expression_reader.dot_then.Goals as goal

pub returns-then-is_mark-clause-holds : goal.returns-then-is_mark-clause-holds
returns-then-is_mark-clause-holds c = λ whole bs cs f yes' no'.
    (cs, f, (yes' (sym c.is_mark.ensures.is ∙ c.if-is_mark.true), let w = (c.is_mark.ensures.inside c.if-is_mark.true).0 in omega arith))

pub returns-clause-holds : goal.returns-clause-holds
returns-clause-holds c = λ whole bs cs f yes' no'. no' (sym c.is_mark.ensures.is ∙ c.if-is_mark.false)
