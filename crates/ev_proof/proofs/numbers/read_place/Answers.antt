use Rattle.std.proofs.lemmas.Result.{IfOk-weaker}
use Rattle.ev_syntax.specs.Marks.{at_word}
use Rattle.ev_parse.proofs.Takings.{mark_took}
use Rattle.ev_proof.proofs.numbers.read_place.Goals as goal

pub returns : goal.returns
returns c = IfOk-weaker c.read_numbers.result _ _ (λ v h. mark_took at_word c.mark.ensures h) c.read_numbers.ensures
