-- A name is a word as long as the text that is not reserved.
use Rattle.std.proofs.Common.{rules}
use Rattle.ev_syntax.proofs.Characters.{first_place}
use Rattle.ev_syntax.proofs.NameLemmas.{empty_no_name, start_no_name, rest_no_name, reserved_no_name, word_name}
use Rattle.ev_syntax.proofs.names.is_name_text.Goals as goal
use Rattle.ev_syntax.proofs.names.is_name_text.Goals.{then-is_empty-via-then-is_empty, then-is_empty-via-else-is_empty+then-not-starts_word}

pub starts_word-requires-clause-place : goal.starts_word-requires-clause-place
starts_word-requires-clause-place c = first_place c.args.text.now c.utf8.text

pub word_end-requires : goal.word_end-requires
word_end-requires c = first_place c.args.text.now c.utf8.text

pub returns-then-is_empty : goal.returns-then-is_empty
returns-then-is_empty c =
    elim c.then-is_empty.branch [
      | then-is_empty-via-then-is_empty w ↦ empty_no_name c.args.text.now (search rules)
      | then-is_empty-via-else-is_empty+then-not-starts_word w ↦ start_no_name c.args.text.now w.if-not-starts_word.ensures
    ]

pub returns-then-word_end-text : goal.returns-then-word_end-text
returns-then-word_end-text c =
    rest_no_name c.args.text.now _ c.utf8.text c.word_end.ensures.passes c.word_end.ensures.stops (search rules)

pub returns-in-Some : goal.returns-in-Some
returns-in-Some c =
    reserved_no_name c.args.text.now c.as_bytes.result.now _ _ c.utf8.text c.if-not-starts_word.ensures c.word_end.ensures.passes (search rules)
    c.as_bytes.ensures.value c.in-Some.ensures

pub returns-in-None : goal.returns-in-None
returns-in-None c =
    word_name c.args.text.now c.as_bytes.result.now _ c.utf8.text c.if-not-starts_word.ensures c.word_end.ensures.passes (search rules) c.as_bytes.ensures.value c.in-None.ensures
