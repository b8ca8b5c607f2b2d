use Rattle.std.proofs.Common.{codes, string_bytes, arith}
use Rattle.theory.proofs.AnswerLaws.{one_word}
use Rattle.theory.proofs.answers.is_check.Goals as goal

pub returns-in-len1 : goal.returns-in-len1
returns-in-len1 c =
    one_word string_bytes c.args.words.now.items c.as_slice.result.now c.word-item.result c.as_str.result.now (codes "check") c.eq.result
    c.as_slice.ensures.value (omega (arith, c.in-len1.len_at_least)) c.in-len1.len_below c.word-item.is c.as_str.ensures.value c.eq.ensures
