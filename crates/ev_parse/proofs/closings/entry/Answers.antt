use Rattle.std.proofs.Common.{arith}
use Rattle.ev_parse.proofs.ClosingMoves.{entry_at}
use Rattle.ev_parse.proofs.closings.entry.Goals as goal

pub returns : goal.returns
returns c = let l = c.len.ensures in let w = c.requires.inside.0 in let v = c.requires.inside.1 in
    entry_at c.args.reader.now c.args.table.now c.args.at _ c.requires.table (omega arith) w (omega arith)
