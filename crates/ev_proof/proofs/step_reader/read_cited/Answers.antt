use Rattle.ev_proof.specs.declared.words.StepWord.TheVariants.{Cited}
use Rattle.ev_parse.proofs.Takings.{took_then}
use Rattle.ev_proof.proofs.WordLaws.{made_took}
use Rattle.ev_proof.proofs.step_reader.read_cited.Goals as goal

pub returns : goal.returns
returns c = made_took (Cited c.args.word) (took_then c.in_ok-label.ensures c.in_ok-cite.ensures (λ b us rest h e. tt)) c.cited_step.ensures
