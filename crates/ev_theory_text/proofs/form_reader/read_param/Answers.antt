use Rattle.std.proofs.Common.{refl}
use Rattle.ev_syntax.specs.Marks.{param_word, comma}
use Rattle.ev_parse.specs.inner.Taking.{NotBefore}
use Rattle.ev_theory_text.specs.inner.Making.{param_form}
use Rattle.ev_parse.proofs.Takings.{mark_took, took_ends, never_any}
use Rattle.ev_theory_text.proofs.Ending.{at_end}
use Rattle.ev_theory_text.proofs.Words.{word_took, of_param}
use Rattle.ev_theory_text.proofs.form_reader.read_param.Goals as goal

pub returns : goal.returns
returns c = word_took param_form (mark_took param_word c.mark.ensures (took_ends (at_end (NotBefore comma) refl) c.in_ok-names.ensures)) (λ a. refl) (λ a. never_any a) of_param c.param.ensures
