use Rattle.std.proofs.Common.{ap}
use Rattle.std.specs.Prelude.{Some}
use Rattle.ev_proof.specs.declared.words.StepWord.TheVariants.{Lone}
use Rattle.ev_proof.proofs.WordLaws.{made_took, took_alone}
use Rattle.ev_proof.proofs.step_reader.read_lone.Goals as goal

pub returns : goal.returns
returns c = made_took (Lone c.args.word) (took_alone c.args.word) (ap (λ x. Some x) c.lone_step.ensures)
