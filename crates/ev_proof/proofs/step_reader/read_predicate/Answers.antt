use Rattle.std.proofs.Common.{refl}
use Rattle.ev_proof.specs.declared.words.StepWord.TheVariants.{Predicate}
use Rattle.ev_parse.specs.inner.Taking.{EndsFormula}
use Rattle.ev_parse.proofs.Takings.{took_ends}
use Rattle.ev_proof.proofs.Ending.{at_end}
use Rattle.ev_proof.proofs.WordLaws.{made_took}
use Rattle.ev_proof.proofs.step_reader.read_predicate.Goals as goal

pub returns : goal.returns
returns c = made_took (Predicate c.args.word) (took_ends (at_end EndsFormula refl) c.in_ok-predicate.ensures) c.predicate_step.ensures
