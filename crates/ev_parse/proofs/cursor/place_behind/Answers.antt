use Rattle.std.proofs.Common.{sym, ◌∙◌}
use Rattle.ev_parse.proofs.PieceLaws.{mark_behind}
use Rattle.ev_parse.proofs.cursor.place_behind.Goals as goal

pub returns-then-is_mark-clause-is : goal.returns-then-is_mark-clause-is
returns-then-is_mark-clause-is c =
    mark_behind c.args.mark c.in_ok-at.at c.args.reader.now c.args.at c.in_ok-at.was (sym c.is_mark.ensures.is ∙ c.if-is_mark.true)
