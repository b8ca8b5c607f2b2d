-- An ASCII byte is the character at the place.
use Rattle.ev_syntax.specs.Chars.{starts_name}
use Rattle.ev_syntax.proofs.Stands.{byte_starts}
use Rattle.ev_syntax.proofs.scan.starts_word.Goals as goal

pub returns-then-byte-lt128 : goal.returns-then-byte-lt128
returns-then-byte-lt128 c =
    byte_starts starts_name c.args.text.now c.as_bytes.result.now c.args.at c.is_start_byte.result c.utf8.text c.requires.place c.requires.within
    c.as_bytes.ensures.value c.if-byte-lt128.true c.is_start_byte.ensures
