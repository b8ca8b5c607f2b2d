use Rattle.std.proofs.Common.{[], ◌∷◌, ◌++◌, ◌+◌, drop, refl, sym, ◌∙◌, arith}
use Rattle.ev_syntax.specs.Marks.{open_paren}
use Rattle.ev_syntax.specs.Tokens.{mark}
use Rattle.ev_parse.specs.inner.Frames.{tail, around_behind, level_at}
use Rattle.ev_syntax.proofs.TypeMoves.{begins_at, two_on, not_eq}
use Rattle.ev_parse.proofs.LevelMoves.{around_part, no_around}
use Rattle.ev_parse.proofs.LevelMoves as moves
use Rattle.ev_parse.proofs.expression_reader.call_around.Goals as goal

pub returns-then-not-is_mark-clause-holds : goal.returns-then-not-is_mark-clause-holds
returns-then-not-is_mark-clause-holds c = λ whole bs h. let t = c.args.reader.now in let at = c.args.at in let q = c.requires.others in
    moves.part_none whole bs (tail c.args.k) (drop at t) (mark c.args.mark ∷ drop (at + 1) t) c.requires.token h
    (λ g. no_around c.args.mark (drop (at + 1) t) g q.0 (not_eq _ _ q.1) (not_eq _ _ q.2) c.requires.word (sym c.is_mark.ensures.is ∙ c.if-not-is_mark.true))

pub returns-clause-holds : goal.returns-clause-holds
returns-clause-holds c = λ whole bs h. let t = c.args.reader.now in let at = c.args.at in let m = c.args.mark in let q = c.requires.others in (
  tail c.args.k ++ around_behind m ∷ [],
  refl,
  (
    moves.part_inner whole bs (tail c.args.k) (around_behind m) (level_at 0 (drop (at + 2) t)) (drop at t) (mark m ∷ mark open_paren ∷ drop (at + 2) t)
        (two_on t at (mark m) (mark open_paren) c.requires.token (begins_at open_paren t (at + 1) (sym c.is_mark.ensures.is ∙ c.if-not-is_mark.false))) h
        (λ g. around_part m (drop (at + 2) t) g q.0 (not_eq _ _ q.1) (not_eq _ _ q.2) c.requires.word),
    (let w = (c.is_mark.ensures.inside c.if-not-is_mark.false).0 in omega arith),
    omega arith,
  ),
)
