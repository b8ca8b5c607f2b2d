use Rattle.std.proofs.Common.{subst, arith}
use Rattle.ev_parse.specs.Items.{ItemAnswer}
use Rattle.ev_parse.proofs.WholeMoves.{no_whole, left_over}
use Rattle.ev_parse.proofs.formula.read_whole.Goals as goal

pub returns-in_default : goal.returns-in_default
returns-in_default c =
    no_whole c.args.sort c.args.limit c.args.reader.now c.args.from c.requires.inside
    (subst (ItemAnswer c.args.sort c.args.limit c.args.reader.now c.args.from) c.in_default.is c.in_ok-piece.ensures)

pub returns-then-to-len : goal.returns-then-to-len
returns-then-to-len c =
    left_over c.args.sort c.args.limit c.args.reader.now c.args.from c.in-Some.to c.in-Some.piece c.requires.inside
    (subst (ItemAnswer c.args.sort c.args.limit c.args.reader.now c.args.from) c.in-Some.is c.in_ok-piece.ensures)
    (let l = c.len.ensures in let t = c.if-to-len.true in omega arith)
