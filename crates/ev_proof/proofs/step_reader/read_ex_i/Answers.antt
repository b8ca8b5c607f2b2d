use Rattle.std.proofs.Common.{refl}
use Rattle.ev_proof.specs.declared.words.StepWord.TheVariants.{ExI as exi_word}
use Rattle.ev_parse.specs.inner.Taking.{EndsFormula}
use Rattle.ev_parse.proofs.Takings.{took_ends}
use Rattle.ev_proof.proofs.Ending.{at_end}
use Rattle.ev_proof.proofs.WordLaws.{made_took}
use Rattle.ev_proof.proofs.step_reader.read_ex_i.Goals as goal

pub returns : goal.returns
returns c = made_took exi_word (took_ends (at_end EndsFormula refl) c.in_ok-witness.ensures) c.ex_i.ensures
