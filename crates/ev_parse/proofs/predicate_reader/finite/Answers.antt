use Rattle.std.proofs.Common.{[], ◌∷◌, ◌++◌, ◌+◌, drop, refl, sym, ◌∙◌, arith}
use Rattle.ev_syntax.specs.Marks.{open_paren, finite_word}
use Rattle.ev_syntax.specs.Tokens.{mark}
use Rattle.ev_parse.specs.inner.Frames.{stage_tail, around_behind, level_at}
use Rattle.ev_syntax.proofs.TypeMoves.{begins_at, two_on}
use Rattle.ev_parse.proofs.PredicateMoves.{no_finite}
use Rattle.ev_parse.proofs.PredicateMoves as moves
use Rattle.ev_parse.proofs.predicate_reader.finite.Goals as goal

pub returns-then-not-is_mark-clause-holds : goal.returns-then-not-is_mark-clause-holds
returns-then-not-is_mark-clause-holds c = λ whole bs h. let t = c.args.reader.now in let at = c.args.at in
    moves.part_none whole bs c.args.stage (drop at t) (mark finite_word ∷ drop (at + 1) t) c.requires.token h
    (λ g. no_finite (drop (at + 1) t) g (sym c.is_mark.ensures.is ∙ c.if-not-is_mark.true))

pub returns-clause-holds : goal.returns-clause-holds
returns-clause-holds c = λ whole bs h. let t = c.args.reader.now in let at = c.args.at in (
  stage_tail c.args.stage ++ around_behind finite_word ∷ [],
  refl,
  (
    moves.part_inner whole bs c.args.stage (around_behind finite_word) (level_at 0 (drop (at + 2) t)) (drop at t) (mark finite_word ∷ mark open_paren ∷ drop (at + 2) t)
        (two_on t at (mark finite_word) (mark open_paren) c.requires.token (begins_at open_paren t (at + 1) (sym c.is_mark.ensures.is ∙ c.if-not-is_mark.false))) h (λ g. refl),
    (let w = (c.is_mark.ensures.inside c.if-not-is_mark.false).0 in omega arith),
    omega arith,
  ),
)
