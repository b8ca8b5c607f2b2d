use Rattle.std.proofs.Common.{refl}
use Rattle.ev_proof.specs.declared.words.StepWord.TheVariants.{Fold as fold_word}
use Rattle.ev_parse.specs.inner.Taking.{NoNumber}
use Rattle.ev_parse.proofs.Takings.{took_then}
use Rattle.ev_proof.proofs.Ending.{before_cite}
use Rattle.ev_proof.proofs.WordLaws.{made_took}
use Rattle.ev_proof.proofs.step_reader.read_fold.Goals as goal

pub returns : goal.returns
returns c = made_took fold_word
    (took_then c.in_ok-name.ensures (took_then c.in_ok-place.ensures c.in_ok-cite.ensures (before_cite NoNumber refl (λ vs. refl) (λ vs. refl))) (λ b us rest h e. tt)) c.fold.ensures
