use Rattle.std.proofs.Common.{refl}
use Rattle.ev_proof.specs.declared.words.StepWord.TheVariants.{Weak as weak_word}
use Rattle.ev_parse.specs.inner.Taking.{NoNumber}
use Rattle.ev_parse.proofs.Takings.{took_ends}
use Rattle.ev_proof.proofs.Ending.{at_end}
use Rattle.ev_proof.proofs.WordLaws.{made_took}
use Rattle.ev_proof.proofs.step_reader.read_weak.Goals as goal

pub returns : goal.returns
returns c = made_took weak_word (took_ends (at_end NoNumber refl) c.in_ok-numbers.ensures) c.weak.ensures
