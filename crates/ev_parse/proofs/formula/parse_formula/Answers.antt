use Rattle.std.proofs.Common.{ap, subst, ◌∙◌}
use Rattle.ev_syntax.specs.Views.{all_seen_in}
use Rattle.ev_syntax.specs.Tokens.{tokens_of}
use Rattle.ev_parse.specs.Wholes.{IsFormulaResult}
use Rattle.ev_parse.proofs.WholeMoves.{formula_too_deep}
use Rattle.ev_parse.proofs.formula.parse_formula.Goals as goal

pub returns-clause-too_deep : goal.returns-clause-too_deep
returns-clause-too_deep c =
    formula_too_deep c.args.sort c.args.limit (tokens_of (all_seen_in c.args.text.now c.args.tokens.now)) c.all_formula.result
    (subst (λ us. IsFormulaResult c.args.sort c.args.limit us c.all_formula.result) (c.new-reader.ensures ∙ ap (λ xs. tokens_of (all_seen_in c.args.text.now xs)) c.as_slice.ensures) c.all_formula.ensures)
