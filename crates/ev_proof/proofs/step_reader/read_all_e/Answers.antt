use Rattle.std.proofs.Common.{refl, subst, sym}
use Rattle.ev_syntax.specs.Marks.{comma}
use Rattle.ev_proof.specs.declared.words.StepWord.TheVariants.{AllE as alle_word}
use Rattle.ev_parse.specs.inner.Taking.{EndsFormula}
use Rattle.ev_parse.proofs.Takings.{took_then, mark_took, took_ends}
use Rattle.ev_proof.proofs.Ending.{at_end}
use Rattle.ev_proof.proofs.WordLaws.{made_took}
use Rattle.ev_proof.proofs.step_reader.read_all_e.Goals as goal

pub returns : goal.returns
returns c = made_took alle_word
    (took_then c.in_ok-universal.ensures (mark_took comma c.mark.ensures (took_ends (at_end EndsFormula refl) c.in_ok-term.ensures)) (λ b us rest h e. subst EndsFormula (sym h.1) refl))
    c.all_e.ensures
