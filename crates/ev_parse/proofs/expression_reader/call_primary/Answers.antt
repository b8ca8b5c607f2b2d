use Rattle.std.proofs.Common.{[], ◌∷◌, ◌++◌, ◌+◌, drop, refl, ap, sym, ◌∙◌, arith}
use Rattle.std.specs.Prelude.{Some}
use Rattle.ev_syntax.specs.Marks.{open_paren}
use Rattle.ev_syntax.specs.Tokens.{mark}
use Rattle.ev_syntax.specs.Raw.{word}
use Rattle.ev_parse.specs.inner.Frames.{tail, paren_behind, level_at}
use Rattle.ev_syntax.proofs.TypeMoves.{not_eq}
use Rattle.ev_parse.proofs.LevelMoves.{word_part, no_primary}
use Rattle.ev_parse.proofs.LevelMoves as moves
use Rattle.ev_parse.proofs.expression_reader.call_primary.Goals as goal

pub returns-then-is_word-clause-holds : goal.returns-then-is_word-clause-holds
returns-then-is_word-clause-holds c = λ whole bs h. let t = c.args.reader.now in let at = c.args.at in let m = c.args.mark in
    c.leaf.ensures.holds whole bs
    (moves.part_found whole bs (tail c.args.k) (drop at t) (mark m ∷ drop (at + 1) t) (Some (word m, drop (at + 1) t)) c.requires.token h
    (λ g. word_part m (drop (at + 1) t) g (sym c.is_word.ensures ∙ c.if-is_word.true)))
    (let w = c.requires.inside.0 in omega arith)

pub returns-then-mark-eq-OPEN_PAREN-clause-holds : goal.returns-then-mark-eq-OPEN_PAREN-clause-holds
returns-then-mark-eq-OPEN_PAREN-clause-holds c = λ whole bs h. let t = c.args.reader.now in let at = c.args.at in (
  tail c.args.k ++ paren_behind ∷ [],
  refl,
  (
    moves.part_inner whole bs (tail c.args.k) paren_behind (level_at 0 (drop (at + 1) t)) (drop at t) (mark open_paren ∷ drop (at + 1) t)
        (c.requires.token ∙ ap (λ m. mark m ∷ drop (at + 1) t) c.if-mark-eq-OPEN_PAREN.true) h (λ g. refl),
    (let w = c.requires.inside.0 in omega arith),
    omega arith,
  ),
)

pub returns-clause-holds : goal.returns-clause-holds
returns-clause-holds c = λ whole bs h. let t = c.args.reader.now in let at = c.args.at in let m = c.args.mark in
    moves.part_none whole bs (tail c.args.k) (drop at t) (mark m ∷ drop (at + 1) t) c.requires.token h
    (λ g. no_primary m (drop (at + 1) t) g (sym c.is_word.ensures ∙ c.if-is_word.false) (not_eq _ _ c.if-mark-eq-PARAM_SIGN.false) (not_eq _ _ c.if-mark-eq-TYPE_WORD.false)
    (sym c.is_call.ensures ∙ c.if-is_call.false) (not_eq _ _ c.if-mark-eq-OPEN_PAREN.false) (not_eq _ _ c.if-mark-eq-OPEN_BRACE.false) (not_eq _ _ c.if-mark-eq-BOOL_WORD.false))
