use Rattle.std.proofs.Common.{◌∙◌, ap, arith}
use Rattle.theory.specs.Words.{words_of}
use Rattle.theory.proofs.ScriptLaws.{not_two_words}
use Rattle.theory.proofs.script.head_of.Goals as goal

pub returns-in-len1 : goal.returns-in-len1
returns-in-len1 c =
    not_two_words c.in_ok-words.words.items c.as_slice.result.now c.args.line.now c.as_slice.ensures.value (c.in_ok-words.ensures ∙ ap words_of c.trimmed.ensures) (λ e. omega arith)

pub returns : goal.returns
returns c =
    not_two_words c.in_ok-words.words.items c.as_slice.result.now c.args.line.now c.as_slice.ensures.value (c.in_ok-words.ensures ∙ ap words_of c.trimmed.ensures) (λ e. omega arith)
