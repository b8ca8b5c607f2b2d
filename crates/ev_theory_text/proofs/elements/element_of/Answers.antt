use Rattle.std.proofs.Common.{subst, sym}
use Rattle.ev_theory_text.specs.Answers.{ElementOf}
use Rattle.ev_theory_text.proofs.Elementary.{element_at_end}
use Rattle.ev_theory_text.proofs.elements.element_of.Goals as goal

pub returns : goal.returns
returns c = subst (ElementOf c.args.reader.now) (sym c.whole_element.ensures)
    (element_at_end c.args.reader.now c.in_ok-cursor.cursor c.read_form.new.cursor c.in_ok-form.form c.is_at_end.result c.in_ok-cursor.ensures c.in_ok-form.ensures c.is_at_end.ensures)
