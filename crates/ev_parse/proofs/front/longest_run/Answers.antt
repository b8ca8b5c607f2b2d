use Rattle.std.specs.Prelude.{Some}
use Rattle.std.proofs.Common.{subst}
use Rattle.ev_syntax.specs.Views.{all_seen_in}
use Rattle.ev_syntax.specs.Tokens.{tokens_of}
use Rattle.ev_parse.specs.Items.{ItemAnswer}
use Rattle.ev_parse.proofs.FrontMoves.{item_front}
use Rattle.ev_parse.proofs.front.longest_run.Goals as goal

pub returns-in-Some : goal.returns-in-Some
returns-in-Some c =
    item_front c.args.sort c.args.limit (tokens_of (all_seen_in c.args.text.now c.args.tokens.now)) c.args.from c.in-Some.found
    (subst (λ us. ItemAnswer c.args.sort c.args.limit us c.args.from (Some c.in-Some.found)) c.new-reader.ensures
    (subst (ItemAnswer c.args.sort c.args.limit c.new-reader.result c.args.from) c.in-Some.is c.in_ok-found.ensures))
