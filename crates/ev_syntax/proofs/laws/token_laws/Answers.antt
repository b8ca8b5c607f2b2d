-- The laws.
use Rattle.ev_syntax.proofs.Continuing.{text_tokens_same}
use Rattle.ev_syntax.proofs.MarkLaws.{marks_are_spellings, constants_are_marks}
use Rattle.ev_syntax.proofs.Spans.{spans_in_order}
use Rattle.ev_syntax.proofs.laws.token_laws.Goals as goal

pub returns : goal.returns
returns c = record { marks = marks_are_spellings; constants = constants_are_marks; one = text_tokens_same; spans = spans_in_order }
