use Rattle.std.proofs.Common.{refl, subst, sym}
use Rattle.ev_syntax.specs.Marks.{inference_word, in_sign, infer_word}
use Rattle.ev_theory_text.specs.inner.Following.{EndsVars, EndsGivens}
use Rattle.ev_parse.specs.inner.Taking.{EndsFormula}
use Rattle.ev_theory_text.specs.inner.Making.{inference_form}
use Rattle.ev_parse.proofs.Takings.{mark_took, took_then, took_ends}
use Rattle.ev_theory_text.proofs.Ending.{at_end}
use Rattle.ev_theory_text.proofs.Words.{word_took, of_inference}
use Rattle.ev_theory_text.proofs.form_reader.read_inference.Goals as goal

pub returns : goal.returns
returns c = word_took inference_form
    (mark_took inference_word c.mark.ensures (took_then c.in_ok-name.ensures (took_then c.in_ok-vars.ensures (mark_took in_sign c.mark-2.ensures
    (took_then c.in_ok-givens.ensures (mark_took infer_word c.mark-3.ensures (took_ends (at_end EndsFormula refl) c.in_ok-inferred.ensures)) (λ b us rest h e. subst EndsGivens (sym h.1) (refl, refl, refl))))
    (λ p us rest h e. subst EndsVars (sym h.1) (((refl, refl), refl), refl)))
    (λ b us rest h e. tt)))
    (λ a. refl) (λ a. refl) of_inference c.inference.ensures
