-- A digit begins a number, and nothing else does.
use Rattle.std.proofs.Common.{get_or, ap, sym, ◌∙◌, rules, true}
use Rattle.std.specs.Char.{is_ascii_digit}
use Rattle.ev_syntax.proofs.Characters.{byte_stops}
use Rattle.ev_syntax.proofs.Words.{digit-outside}
use Rattle.ev_syntax.proofs.Stands.{byte_starts}
use Rattle.ev_syntax.proofs.scan.piece_at.Goals as goal

pub number_at-requires-clause-starts : goal.number_at-requires-clause-starts
number_at-requires-clause-starts c =
    byte_starts is_ascii_digit c.args.text.now c.as_bytes.result.now c.args.at true c.utf8.text c.requires.place c.requires.within
    c.as_bytes.ensures.value (search rules) c.if-is_ascii_digit.ensures.value

pub mark_at-requires-clause-no_number : goal.mark_at-requires-clause-no_number
mark_at-requires-clause-no_number c =
    byte_stops is_ascii_digit c.args.text.now c.args.at digit-outside c.utf8.text c.requires.place c.requires.within
    (ap (λ bs. is_ascii_digit (get_or bs c.args.at 0)) (sym c.as_bytes.ensures.value) ∙ sym c.if-is_ascii_digit.ensures.value)
