use Rattle.ev_proof.specs.declared.words.StepWord.TheVariants.{Axiom as axiom_word}
use Rattle.ev_parse.proofs.Takings.{took_then}
use Rattle.ev_proof.proofs.WordLaws.{made_took}
use Rattle.ev_proof.proofs.step_reader.read_axiom.Goals as goal

pub returns : goal.returns
returns c = made_took axiom_word (took_then c.number-row.ensures c.in_ok-cite.ensures (λ b us rest h e. tt)) c.axiom.ensures
