-- The answer is one of four, and says what it says of the text.
use Rattle.std.proofs.Common.{subst}
use Rattle.std.specs.Prelude.{IfOk}
use Rattle.std.specs.List.{All}
use Rattle.ev_syntax.specs.Laws.{AreSpans}
use Rattle.ev_syntax.specs.inner.Reading.{IsAnswer}
use Rattle.ev_syntax.specs.Views.{all_seen_in, LiesIn}
use Rattle.ev_syntax.proofs.Spans.{answer_spans, answer_within}
use Rattle.ev_syntax.proofs.Answering.{exactly_bad, exactly_large, answer_succeeds}
use Rattle.ev_syntax.proofs.lexer.lex.Goals as goal

pub returns-in-Ok-clause-bad_text : goal.returns-in-Ok-clause-bad_text
returns-in-Ok-clause-bad_text c =
    exactly_bad c.args.text.now _ (subst (λ xs. IsAnswer xs c.lex_text.result) c.in-Ok.ensures.cases.0 c.lex_text.ensures)

pub returns-in-Ok-clause-too_large : goal.returns-in-Ok-clause-too_large
returns-in-Ok-clause-too_large c =
    exactly_large c.args.text.now _ (subst (λ xs. IsAnswer xs c.lex_text.result) c.in-Ok.ensures.cases.0 c.lex_text.ensures)

pub returns-in-Ok-clause-spans : goal.returns-in-Ok-clause-spans
returns-in-Ok-clause-spans c =
    subst (λ xs. IfOk c.lex_text.result (λ tokens. AreSpans xs 0 (all_seen_in xs tokens))) c.in-Ok.ensures.cases.0 (answer_spans _ _ c.lex_text.ensures)

pub returns-in-Ok-clause-within : goal.returns-in-Ok-clause-within
returns-in-Ok-clause-within c =
    subst (λ xs. IfOk c.lex_text.result (λ tokens. All (LiesIn xs) tokens)) c.in-Ok.ensures.cases.0 (answer_within _ _ c.lex_text.ensures)

pub returns-in-Ok-clause-succeeds : goal.returns-in-Ok-clause-succeeds
returns-in-Ok-clause-succeeds c =
    answer_succeeds c.args.text.now _ (subst (λ xs. IsAnswer xs c.lex_text.result) c.in-Ok.ensures.cases.0 c.lex_text.ensures)
