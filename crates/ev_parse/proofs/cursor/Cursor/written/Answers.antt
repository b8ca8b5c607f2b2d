use Rattle.std.proofs.Common.{subst, sym, None}
use Rattle.ev_syntax.specs.inner.TypeFrames.{TypeAnswer}
use Rattle.ev_parse.specs.Depths.{limit}
use Rattle.ev_parse.proofs.PieceLaws.{type_took, no_type_took}
use Rattle.ev_parse.proofs.cursor.Cursor.written.Goals as goal

pub returns-in-Some-2 : goal.returns-in-Some-2
returns-in-Some-2 c =
    type_took c.self.inside.reader.now c.in-Some.at c.in-Some-2.to c.self.inside.at c.args.self.now c.in-Some-2.piece c.whole.result c.in-Some.is (sym c.self.view_is)
    (subst (TypeAnswer limit c.self.inside.reader.now c.in-Some.at) c.in-Some-2.is c.in_ok-piece.ensures) c.whole.ensures

pub returns-in-None : goal.returns-in-None
returns-in-None c = no_type_took c.self.inside.reader.now c.in-Some.at c.self.inside.at c.args.self.now None c.in-Some.is (sym c.self.view_is)
    (subst (TypeAnswer limit c.self.inside.reader.now c.in-Some.at) c.in-None.is c.in_ok-piece.ensures)
