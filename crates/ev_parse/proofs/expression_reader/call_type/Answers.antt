use Rattle.std.proofs.Common.{◌∷◌, ◌+◌, drop, subst, sym, ◌∙◌}
use Rattle.std.specs.Prelude.{Some, None}
use Rattle.ev_syntax.specs.Marks.{open_paren, type_word}
use Rattle.ev_syntax.specs.Tokens.{mark}
use Rattle.ev_syntax.specs.inner.TypeFrames.{TypeAnswer}
use Rattle.ev_parse.specs.inner.Frames.{tail}
use Rattle.ev_syntax.proofs.Resumes.{nothing_inside}
use Rattle.ev_syntax.proofs.TypeMoves.{begins_at, two_on}
use Rattle.ev_parse.proofs.LevelMoves.{no_type_set}
use Rattle.ev_parse.proofs.LevelMoves as moves
use Rattle.ev_parse.proofs.expression_reader.call_type.Goals as goal

pub returns-then-not-is_mark-clause-holds : goal.returns-then-not-is_mark-clause-holds
returns-then-not-is_mark-clause-holds c = λ whole bs h. let t = c.args.reader.now in let at = c.args.at in
    moves.part_none whole bs (tail c.args.k) (drop at t) (mark type_word ∷ drop (at + 1) t) c.requires.token h
    (λ g. no_type_set (drop (at + 1) t) g (sym c.is_mark.ensures.is ∙ c.if-not-is_mark.true))

pub returns-in_ok-piece-in-Some-clause-holds : goal.returns-in_ok-piece-in-Some-clause-holds
returns-in_ok-piece-in-Some-clause-holds c = λ whole bs h. let t = c.args.reader.now in let at = c.args.at in
    let a = subst (TypeAnswer c.args.limit t (at + 2)) c.in-Some.is c.in_ok-written.ensures in
    let two = two_on t at (mark type_word) (mark open_paren) c.requires.token (begins_at open_paren t (at + 1) (sym c.is_mark.ensures.is ∙ c.if-not-is_mark.false)) in
    c.close.ensures.holds whole bs _ (c.in_ok-piece-in-Some.ensures a.0 a.1)
    (moves.type_part whole bs (tail c.args.k) (drop at t) (drop (at + 2) t) (Some (a.0, drop c.in-Some.to t)) two h a.2)

pub returns-in-None-clause-holds : goal.returns-in-None-clause-holds
returns-in-None-clause-holds c = λ whole bs h. let t = c.args.reader.now in let at = c.args.at in
    let two = two_on t at (mark type_word) (mark open_paren) c.requires.token (begins_at open_paren t (at + 1) (sym c.is_mark.ensures.is ∙ c.if-not-is_mark.false)) in
    nothing_inside whole bs (tail c.args.k) (moves.type_part whole bs (tail c.args.k) (drop at t) (drop (at + 2) t) None two h
    (subst (TypeAnswer c.args.limit t (at + 2)) c.in-None.is c.in_ok-written.ensures))
