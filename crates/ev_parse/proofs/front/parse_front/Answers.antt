use Rattle.std.proofs.Common.{subst}
use Rattle.ev_syntax.specs.Views.{all_seen_in}
use Rattle.ev_syntax.specs.Tokens.{tokens_of}
use Rattle.ev_parse.specs.Fronts.{IsFrontResult}
use Rattle.ev_parse.proofs.FrontMoves.{front_too_deep}
use Rattle.ev_parse.proofs.front.parse_front.Goals as goal

pub returns-clause-too_deep : goal.returns-clause-too_deep
returns-clause-too_deep c =
    front_too_deep c.args.sort c.args.limit (tokens_of (all_seen_in c.args.text.now c.args.tokens.now)) c.args.from c.all_front.result
    (subst (λ xs. IsFrontResult c.args.sort c.args.limit (tokens_of (all_seen_in c.args.text.now xs)) c.args.from c.all_front.result) c.as_slice.ensures c.all_front.ensures)
