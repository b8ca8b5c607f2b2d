use Rattle.std.proofs.Common.{refl, subst, sym, ap}
use Rattle.std.specs.Prelude.{◌||◌}
use Rattle.ev_syntax.specs.Marks.{datatype_word, equal_sign}
use Rattle.ev_theory_text.specs.Depths.{cons_deep}
use Rattle.ev_theory_text.specs.inner.Following.{NoParen, EndsCons}
use Rattle.ev_theory_text.specs.inner.Making.{datatype_form}
use Rattle.ev_parse.proofs.Takings.{mark_took, took_then, took_ends, never_any}
use Rattle.ev_theory_text.proofs.Ending.{at_end}
use Rattle.ev_theory_text.proofs.Words.{word_took, of_datatype}
use Rattle.ev_theory_text.proofs.form_reader.read_datatype.Goals as goal

pub returns : goal.returns
returns c = word_took datatype_form
    (mark_took datatype_word c.mark.ensures (took_then c.in_ok-name.ensures
    (took_then c.in_ok-params.ensures (mark_took equal_sign c.mark-2.ensures (took_ends (at_end EndsCons (refl, refl)) c.in_ok-cons.ensures)) (λ b us rest h e. subst NoParen (sym h.1) refl))
    (λ b us rest h e. tt)))
    (λ a. refl) (λ a. ap (λ x. x || cons_deep a.1.1) (never_any a.1.0)) of_datatype c.datatype.ensures
