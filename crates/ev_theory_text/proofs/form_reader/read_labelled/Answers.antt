use Rattle.std.proofs.Common.{subst, sym}
use Rattle.ev_syntax.specs.Marks.{in_sign}
use Rattle.ev_theory_text.specs.Elements.{Labelled}
use Rattle.ev_theory_text.specs.Depths.{labelled_deep}
use Rattle.ev_parse.specs.inner.Taking.{Took, EndsFormula}
use Rattle.ev_parse.proofs.Takings.{mark_took, took_then}
use Rattle.ev_theory_text.proofs.form_reader.read_labelled.Goals as goal

pub returns : goal.returns
returns c = subst (λ v. Took Labelled EndsFormula labelled_deep c.args.cursor.now v c.formula.new.self) (sym c.both.ensures)
    (took_then c.in_ok-name.ensures (mark_took in_sign c.mark.ensures c.in_ok-formula.ensures) (λ b us rest h e. tt))
