use Rattle.ev_proof.specs.declared.words.StepWord.TheVariants.{Dis as dis_word}
use Rattle.ev_parse.proofs.Takings.{took_then}
use Rattle.ev_proof.proofs.WordLaws.{made_took}
use Rattle.ev_proof.proofs.step_reader.read_dis.Goals as goal

pub returns : goal.returns
returns c = made_took dis_word
    (took_then c.in_ok-left.ensures (took_then c.in_ok-right.ensures c.in_ok-cite.ensures (λ b us rest h e. tt)) (λ b us rest h e. tt)) c.dis.ensures
