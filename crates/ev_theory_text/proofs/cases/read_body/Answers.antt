use Rattle.std.proofs.Common.{sym, ◌∙◌}
use Rattle.ev_theory_text.proofs.HeadParts.{direct_took, recursive_took}
use Rattle.ev_theory_text.proofs.cases.read_body.Goals as goal

pub returns-then-begins : goal.returns-then-begins
returns-then-begins c = direct_took c.args.sort (sym c.begins.ensures ∙ c.if-begins.true) c.mark.ensures c.in_ok-formula.ensures c.direct.ensures

pub returns : goal.returns
returns c = recursive_took c.args.sort (sym c.begins.ensures ∙ c.if-begins.false) c.mark-2.ensures c.in_ok-name.ensures c.in_ok-cases.ensures c.recursive.ensures
