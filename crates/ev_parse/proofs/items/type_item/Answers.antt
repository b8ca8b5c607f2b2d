use Rattle.std.proofs.Common.{subst, sym, ◌∙◌}
use Rattle.ev_syntax.specs.inner.TypeFrames.{TypeAnswer}
use Rattle.ev_parse.proofs.ItemMoves.{no_type, open_type, type_item}
use Rattle.ev_parse.proofs.items.type_item.Goals as goal

pub returns-in_default : goal.returns-in_default
returns-in_default c =
    no_type c.args.reader.now c.args.from (subst (TypeAnswer c.args.limit c.args.reader.now c.args.from) c.in_default.is c.in_ok-piece.ensures)

pub returns-then-not-ends_at : goal.returns-then-not-ends_at
returns-then-not-ends_at c = let x = subst (TypeAnswer c.args.limit c.args.reader.now c.args.from) c.in-Some.is c.in_ok-piece.ensures in
    open_type c.args.reader.now c.args.from c.in-Some.to x.0 x.2 (sym c.ends_at.ensures ∙ c.if-not-ends_at.true)

pub returns : goal.returns
returns c = let x = subst (TypeAnswer c.args.limit c.args.reader.now c.args.from) c.in-Some.is c.in_ok-piece.ensures in
    type_item c.args.reader.now c.args.from c.in-Some.to c.args.limit c.in_ok-written_type.field-0 x.0 x.2 (c.in_ok-written_type.ensures c.args.limit x.0 x.1) x.4 x.3 (sym c.ends_at.ensures ∙ c.if-not-ends_at.false)
