use Rattle.std.proofs.Common.{refl}
use Rattle.ev_proof.specs.declared.words.StepWord.TheVariants.{Placed}
use Rattle.ev_parse.specs.inner.Taking.{NoNumber}
use Rattle.ev_parse.proofs.Takings.{took_ends}
use Rattle.ev_proof.proofs.Ending.{at_end}
use Rattle.ev_proof.proofs.WordLaws.{made_took}
use Rattle.ev_proof.proofs.step_reader.read_placed.Goals as goal

pub returns : goal.returns
returns c = made_took (Placed c.args.word) (took_ends (at_end NoNumber refl) c.in_ok-place.ensures) c.placed_step.ensures
