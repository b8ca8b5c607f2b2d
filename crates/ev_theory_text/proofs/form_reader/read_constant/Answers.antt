use Rattle.std.proofs.Common.{refl}
use Rattle.ev_syntax.specs.Marks.{constant_word, where_word}
use Rattle.ev_theory_text.specs.inner.Following.{EndsClause}
use Rattle.ev_parse.specs.inner.Taking.{EndsType}
use Rattle.ev_theory_text.specs.inner.Making.{constant_form}
use Rattle.ev_parse.proofs.Takings.{mark_took, took_then, took_ends}
use Rattle.ev_theory_text.proofs.Ending.{at_end, before_where}
use Rattle.ev_theory_text.proofs.Words.{word_took, of_constant}
use Rattle.ev_theory_text.proofs.form_reader.read_constant.Goals as goal

pub returns : goal.returns
returns c = word_took constant_form
    (mark_took constant_word c.mark.ensures (took_then c.in_ok-head.ensures.took (took_ends (at_end (EndsClause where_word) (refl, refl)) c.in_ok-condition.ensures)
    (λ b us rest h e. before_where EndsType (refl, refl) (λ vs. (refl, refl)) b us rest h e)))
    (λ a. refl) (λ a. refl) of_constant c.constant.ensures
