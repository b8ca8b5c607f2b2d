use Rattle.std.proofs.Common.{ap, sym, ◌∙◌}
use Rattle.std.proofs.lemmas.Result.{IfOk-weaker}
use Rattle.ev_proof.specs.inner.Words.{word_of}
use Rattle.ev_proof.proofs.WordLaws.{no_name, no_word, step_took}
use Rattle.ev_proof.proofs.step_reader.read_step.Goals as goal

pub returns-in_default : goal.returns-in_default
returns-in_default c = no_name c.in_default.is c.in_ok-name.ensures

pub returns-in_default-word_of : goal.returns-in_default-word_of
returns-in_default-word_of c =
    no_word c.in-Some.name c.in-Some.is (ap word_of (sym c.as_slice.ensures) ∙ sym c.word_of.ensures ∙ c.in_default-word_of.is) c.in_ok-name.ensures c.refuse.ensures

pub returns : goal.returns
returns c = IfOk-weaker c.read_behind.result _ _
    (λ v h. step_took c.in-Some.name c.in-Some-word_of.word c.in-Some.is (ap word_of (sym c.as_slice.ensures) ∙ sym c.word_of.ensures ∙ c.in-Some-word_of.is) c.in_ok-name.ensures h)
    c.read_behind.ensures
