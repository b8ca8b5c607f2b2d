use Rattle.std.proofs.Common.{refl}
use Rattle.ev_syntax.specs.Marks.{import_word}
use Rattle.ev_theory_text.specs.inner.Making.{import_form}
use Rattle.ev_parse.proofs.Takings.{mark_took, took_ends}
use Rattle.ev_theory_text.proofs.Words.{word_took, of_import}
use Rattle.ev_theory_text.proofs.form_reader.read_import.Goals as goal

pub returns : goal.returns
returns c = word_took import_form (mark_took import_word c.mark.ensures (took_ends (λ rest e. tt) c.in_ok-name.ensures)) (λ a. refl) (λ a. refl) of_import c.import.ensures
