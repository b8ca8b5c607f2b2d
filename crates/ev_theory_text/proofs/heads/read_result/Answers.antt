use Rattle.std.proofs.Common.{sym, ◌∙◌}
use Rattle.ev_theory_text.proofs.HeadParts.{pred_took, typed_took}
use Rattle.ev_theory_text.proofs.heads.read_result.Goals as goal

pub returns-then-begins : goal.returns-then-begins
returns-then-begins c = pred_took c.args.cursor.now c.mark.new.self (sym c.begins.ensures ∙ c.if-begins.true) c.mark.ensures

pub returns : goal.returns
returns c = typed_took (sym c.begins.ensures ∙ c.if-begins.false) c.in_ok-written.ensures c.typed.ensures
