use Rattle.std.proofs.Common.{◌∷◌, ◌+◌, drop, subst, ap, ◌∙◌}
use Rattle.ev_syntax.specs.Tokens.{mark}
use Rattle.ev_parse.specs.inner.Closings.{Closes}
use Rattle.ev_parse.proofs.ClosingMoves.{closes_open, closes_open_none}
use Rattle.ev_parse.proofs.closings.closing_mark.Goals as goal

pub returns-in-Some : goal.returns-in-Some
returns-in-Some c = let ts = c.args.reader.now in let at = c.args.at in
    closes_open ts at c.in-Some.to c.entry.result (c.requires.token ∙ ap (λ m. mark m ∷ drop (at + 1) ts) c.if-mark-ne-OPEN_PAREN.false) (subst (Closes ts (at + 1)) c.in-Some.is c.entry-next.ensures) c.entry.ensures

pub returns-in-None : goal.returns-in-None
returns-in-None c = let ts = c.args.reader.now in let at = c.args.at in
    closes_open_none ts at (c.requires.token ∙ ap (λ m. mark m ∷ drop (at + 1) ts) c.if-mark-ne-OPEN_PAREN.false) (subst (Closes ts (at + 1)) c.in-None.is c.entry-next.ensures)
