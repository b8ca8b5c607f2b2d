use Rattle.std.proofs.Common.{drop, sym, ap, ◌∙◌}
use Rattle.std.specs.Prelude.{not}
use Rattle.ev_parse.proofs.EndingMoves.{goes_on_further, connects_or_ends}
use Rattle.ev_parse.proofs.endings.ends_at.Goals as goal

pub returns-then-goes_on : goal.returns-then-goes_on
returns-then-goes_on c = goes_on_further (drop c.args.at c.args.reader.now) (sym c.goes_on.ensures ∙ c.if-goes_on.true)

pub returns : goal.returns
returns c =
    ap not c.connects.ensures ∙ connects_or_ends (drop c.args.at c.args.reader.now) (sym c.goes_on.ensures ∙ c.if-goes_on.false)
