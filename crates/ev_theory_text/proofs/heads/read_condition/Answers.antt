use Rattle.std.proofs.Common.{sym, ◌∙◌}
use Rattle.ev_theory_text.proofs.HeadParts.{no_clause_took, clause_took}
use Rattle.ev_theory_text.proofs.heads.read_condition.Goals as goal

pub returns-then-not-begins : goal.returns-then-not-begins
returns-then-not-begins c = no_clause_took c.args.word (sym c.begins.ensures ∙ c.if-not-begins.true)

pub returns : goal.returns
returns c = clause_took c.args.word (sym c.begins.ensures ∙ c.if-not-begins.false) c.mark.ensures c.in_ok-formula.ensures c.condition_of.ensures
