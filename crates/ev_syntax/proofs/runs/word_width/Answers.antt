-- At the end of the text, or at a byte that continues no word, the word stops.
use Rattle.std.proofs.Common.{get_or, sym, ap, ◌∙◌, arith, rules}
use Rattle.unicode_ident.specs.Ident.{is_xid_continue}
use Rattle.ev_syntax.proofs.Characters.{ascii_stops, end_stops}
use Rattle.ev_syntax.proofs.runs.word_width.Goals as goal

pub returns-then-at-bytes-clause-stops : goal.returns-then-at-bytes-clause-stops
returns-then-at-bytes-clause-stops c = λ _. end_stops is_xid_continue c.args.text.now c.args.at (omega arith)

pub returns-else-is_word_byte-clause-stops : goal.returns-else-is_word_byte-clause-stops
returns-else-is_word_byte-clause-stops c =
    λ _. ascii_stops is_xid_continue c.args.text.now c.args.at c.utf8.text c.requires (omega arith) (search rules)
    (ap (λ bs. is_xid_continue (get_or bs c.args.at 0)) (sym c.as_bytes-bytes.ensures.value) ∙ sym c.if-is_word_byte.ensures)
