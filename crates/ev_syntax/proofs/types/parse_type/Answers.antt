use Rattle.std.proofs.Common.{ap, subst, ◌∙◌}
use Rattle.ev_syntax.specs.Views.{all_seen_in}
use Rattle.ev_syntax.specs.Tokens.{tokens_of}
use Rattle.ev_syntax.specs.Answers.{IsTypeResult}
use Rattle.ev_syntax.proofs.TypeAnswers.{type_ok, type_syntax, type_too_deep}
use Rattle.ev_syntax.proofs.types.parse_type.Goals as goal

pub returns-clause-ok : goal.returns-clause-ok
returns-clause-ok c = type_ok (tokens_of (all_seen_in c.args.text.now c.args.tokens.now)) c.args.limit c.all_type.result (subst (λ us. IsTypeResult us c.args.limit c.all_type.result) (c.new-reader.ensures ∙ ap (λ xs. tokens_of (all_seen_in c.args.text.now xs)) c.as_slice.ensures) c.all_type.ensures)

pub returns-clause-syntax : goal.returns-clause-syntax
returns-clause-syntax c = type_syntax (tokens_of (all_seen_in c.args.text.now c.args.tokens.now)) c.args.limit c.all_type.result (subst (λ us. IsTypeResult us c.args.limit c.all_type.result) (c.new-reader.ensures ∙ ap (λ xs. tokens_of (all_seen_in c.args.text.now xs)) c.as_slice.ensures) c.all_type.ensures)

pub returns-clause-too_deep : goal.returns-clause-too_deep
returns-clause-too_deep c = type_too_deep (tokens_of (all_seen_in c.args.text.now c.args.tokens.now)) c.args.limit c.all_type.result (subst (λ us. IsTypeResult us c.args.limit c.all_type.result) (c.new-reader.ensures ∙ ap (λ xs. tokens_of (all_seen_in c.args.text.now xs)) c.as_slice.ensures) c.all_type.ensures)
