use Rattle.std.proofs.Common.{refl, false, sym, ◌∙◌}
use Rattle.ev_theory_text.proofs.HeadParts.{no_mark_took, one_mark_took}
use Rattle.ev_theory_text.proofs.branches.maybe_mark.Goals as goal

pub returns-then-not-begins : goal.returns-then-not-begins
returns-then-not-begins c = no_mark_took c.args.mark false refl (sym c.begins.ensures ∙ c.if-not-begins.true)

pub returns : goal.returns
returns c = one_mark_took c.args.cursor.now c.mark.new.self c.args.mark (sym c.begins.ensures ∙ c.if-not-begins.false) c.mark.ensures
