use Rattle.std.proofs.Common.{drop, sym, ◌∙◌}
use Rattle.ev_parse.proofs.PredicateMoves as moves
use Rattle.ev_parse.proofs.predicate_reader.behind_literal.Goals as goal

pub returns-then-is_mark-clause-holds : goal.returns-then-is_mark-clause-holds
returns-then-is_mark-clause-holds c = λ whole bs r p h le. let t = c.args.reader.now in let at = c.args.at in
    (r, p, moves.and_chain whole bs c.args.stage r (drop at t) c.requires.further (sym c.is_mark.ensures.is ∙ c.if-is_mark.true) h, le)

pub returns-then-is_mark-2-clause-holds : goal.returns-then-is_mark-2-clause-holds
returns-then-is_mark-2-clause-holds c = λ whole bs r p h le. let t = c.args.reader.now in let at = c.args.at in
    (r, p, moves.or_chain whole bs c.args.stage r (drop at t) c.requires.further (sym c.is_mark.ensures.is ∙ c.if-is_mark.false) (sym c.is_mark-2.ensures.is ∙ c.if-is_mark-2.true) h, le)

pub returns-clause-holds : goal.returns-clause-holds
returns-clause-holds c = λ whole bs r p h le. let t = c.args.reader.now in let at = c.args.at in
    (r, p, moves.no_chain whole bs c.args.stage r (drop at t) c.requires.further (sym c.is_mark.ensures.is ∙ c.if-is_mark.false) (sym c.is_mark-2.ensures.is ∙ c.if-is_mark-2.false) h, le)
