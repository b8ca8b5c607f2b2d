use Rattle.std.proofs.Common.{refl}
use Rattle.ev_proof.specs.declared.words.StepWord.TheVariants.{Rewrite as rewrite_word}
use Rattle.ev_parse.specs.inner.Taking.{NoNumber}
use Rattle.ev_parse.proofs.Takings.{took_then}
use Rattle.ev_proof.proofs.Ending.{before_cite}
use Rattle.ev_proof.proofs.WordLaws.{made_took}
use Rattle.ev_proof.proofs.step_reader.read_rewrite.Goals as goal

pub returns : goal.returns
returns c = made_took rewrite_word
    (took_then c.in_ok-label.ensures (took_then c.number-branch.ensures
    (took_then c.in_ok-place.ensures c.in_ok-cite.ensures (before_cite NoNumber refl (λ vs. refl) (λ vs. refl)))
    (λ b us rest h e. tt)) (λ b us rest h e. tt)) c.rewrite.ensures
