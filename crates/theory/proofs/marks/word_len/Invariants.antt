use Rattle.std.proofs.Common.{◌≡◌, ◌+◌, drop, length}
use Rattle.std.specs.List.{take_while}
use Rattle.theory.specs.Words.{is_word_char}
use Rattle.theory.proofs.marks.word_len.Given as goal

abbrev pub invariant-loop-byte : goal.invariant-loop-byte
invariant-loop-byte l = record {
  at : l.len ≡ l.byte-index;
  rest : l.len + length (take_while is_word_char (drop l.byte-index l.text)) ≡ length (take_while is_word_char l.text);
}
