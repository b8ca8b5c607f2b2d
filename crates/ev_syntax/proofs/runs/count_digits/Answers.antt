-- One digit more, and where the digits stop.
use Rattle.std.proofs.Common.{get_or, sym, ap, ◌∙◌, arith, rules}
use Rattle.std.specs.Char.{is_ascii_digit}
use Rattle.ev_syntax.proofs.Characters.{byte_stops, end_stops}
use Rattle.ev_syntax.proofs.Words.{digit-outside}
use Rattle.ev_syntax.proofs.Counting.{digit_counted}
use Rattle.ev_syntax.proofs.runs.count_digits.Goals as goal

pub digits-preserved : goal.digits-preserved
digits-preserved c =
    digit_counted c.args.text.now c.args.from c.digits.counted.end c.digits.counted.value _ (get_or c.as_bytes-bytes.result.now c.digits.counted.end 0)
    c.digits.invariant c.utf8.text (search rules) (ap (λ bs. get_or bs c.digits.counted.end 0) c.as_bytes-bytes.ensures.value)
    (sym c.if-is_ascii_digit.ensures.value) (search rules) c.with_digit.ensures

pub returns-else-is_ascii_digit-clause-stops : goal.returns-else-is_ascii_digit-clause-stops
returns-else-is_ascii_digit-clause-stops c =
    byte_stops is_ascii_digit c.args.text.now c.digits.counted.end digit-outside c.utf8.text c.digits.invariant.place (search rules)
    (ap (λ bs. is_ascii_digit (get_or bs c.digits.counted.end 0)) (sym c.as_bytes-bytes.ensures.value) ∙ sym c.if-is_ascii_digit.ensures.value)

pub returns-after-digits-clause-stops : goal.returns-after-digits-clause-stops
returns-after-digits-clause-stops c = end_stops is_ascii_digit c.args.text.now c.digits.counted.end (omega arith)
