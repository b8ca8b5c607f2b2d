-- Where the blanks stop.
use Rattle.std.proofs.Common.{get_or, sym, ap, ◌∙◌, arith, rules}
use Rattle.ev_syntax.specs.Chars.{is_blank}
use Rattle.ev_syntax.proofs.Characters.{byte_stops, end_stops}
use Rattle.ev_syntax.proofs.Words.{blank-outside}
use Rattle.ev_syntax.proofs.runs.blanks_end.Goals as goal

pub returns-else-is_blank_byte-clause-stops : goal.returns-else-is_blank_byte-clause-stops
returns-else-is_blank_byte-clause-stops c =
    byte_stops is_blank c.args.text.now c.blanks.at blank-outside c.utf8.text c.blanks.invariant.place (search rules)
    (ap (λ bs. is_blank (get_or bs c.blanks.at 0)) (sym c.as_bytes-bytes.ensures.value) ∙ sym c.if-is_blank_byte.ensures.blank)

pub returns-after-blanks-clause-stops : goal.returns-after-blanks-clause-stops
returns-after-blanks-clause-stops c = end_stops is_blank c.args.text.now c.blanks.at (omega arith)
