use Rattle.std.proofs.Common.{refl}
use Rattle.ev_syntax.specs.Marks.{axiom_word}
use Rattle.ev_parse.specs.inner.Taking.{EndsFormula}
use Rattle.ev_theory_text.specs.inner.Making.{axiom_form}
use Rattle.ev_parse.proofs.Takings.{mark_took, took_ends}
use Rattle.ev_theory_text.proofs.Ending.{at_end}
use Rattle.ev_theory_text.proofs.Words.{word_took, of_axiom}
use Rattle.ev_theory_text.proofs.form_reader.read_axiom.Goals as goal

pub returns : goal.returns
returns c = word_took axiom_form (mark_took axiom_word c.mark.ensures (took_ends (at_end EndsFormula refl) c.in_ok-labelled.ensures)) (λ a. refl) (λ a. refl) of_axiom c.axiom.ensures
