use Rattle.std.proofs.Common.{refl}
use Rattle.ev_syntax.specs.Marks.{theorem_word}
use Rattle.ev_parse.specs.inner.Taking.{EndsFormula}
use Rattle.ev_theory_text.specs.inner.Making.{theorem_form}
use Rattle.ev_parse.proofs.Takings.{mark_took, took_ends}
use Rattle.ev_theory_text.proofs.Ending.{at_end}
use Rattle.ev_theory_text.proofs.Words.{word_took, of_theorem}
use Rattle.ev_theory_text.proofs.form_reader.read_theorem.Goals as goal

pub returns : goal.returns
returns c = word_took theorem_form (mark_took theorem_word c.mark.ensures (took_ends (at_end EndsFormula refl) c.in_ok-labelled.ensures)) (λ a. refl) (λ a. refl) of_theorem c.theorem.ensures
