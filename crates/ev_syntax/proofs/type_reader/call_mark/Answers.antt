use Rattle.std.proofs.Common.{[], ◌∷◌, ◌++◌, ◌+◌, drop, refl, ap, ◌∙◌, arith}
use Rattle.ev_syntax.specs.Marks.{open_paren, int_word, bool_set_word}
use Rattle.ev_syntax.specs.Tokens.{mark}
use Rattle.ev_syntax.specs.Raw.{int_type, bool_type}
use Rattle.ev_syntax.specs.inner.TypeFrames.{type_tail, closed_type}
use Rattle.ev_syntax.proofs.TypeMoves.{other_mark, not_eq}
use Rattle.ev_syntax.proofs.TypeMoves as moves
use Rattle.ev_syntax.proofs.type_reader.call_mark.Goals as goal

pub returns-then-mark-eq-OPEN_PAREN-clause-holds : goal.returns-then-mark-eq-OPEN_PAREN-clause-holds
returns-then-mark-eq-OPEN_PAREN-clause-holds c = λ whole bs h.
    let t = c.args.reader.now in let at = c.args.at in (
      type_tail c.args.goal ++ closed_type ∷ [],
      refl,
      (
        moves.inner whole bs c.args.goal closed_type (drop at t) (mark open_paren ∷ drop (at + 1) t) (drop (at + 1) t)
            (c.requires.token ∙ ap (λ m. mark m ∷ drop (at + 1) t) c.if-mark-eq-OPEN_PAREN.true) h (λ g. refl),
        let w = c.requires.inside.0 in omega arith,
      ),
    )

pub returns-clause-holds : goal.returns-clause-holds
returns-clause-holds c = λ whole bs h.
    let t = c.args.reader.now in let at = c.args.at in
    moves.no_leaf whole bs c.args.goal (drop at t) (mark c.args.mark ∷ drop (at + 1) t) c.requires.token h
    (λ g. other_mark c.args.mark (drop (at + 1) t) g (not_eq _ _ c.if-mark-eq-INT_WORD.false) (not_eq _ _ c.if-mark-eq-BOOL_SET_WORD.false)
    (not_eq _ _ c.if-mark-eq-PARAM_SIGN.false) (not_eq _ _ c.if-mark-eq-POW_WORD.false) (not_eq _ _ c.if-mark-eq-OPEN_PAREN.false))

pub returns-then-mark-eq-INT_WORD-clause-holds : goal.returns-then-mark-eq-INT_WORD-clause-holds
returns-then-mark-eq-INT_WORD-clause-holds c = λ whole bs h.
    let t = c.args.reader.now in let at = c.args.at in
    c.leaf.ensures.holds whole bs
    (moves.leaf whole bs c.args.goal (drop at t) (mark int_word ∷ drop (at + 1) t) (drop (at + 1) t) int_type
    (c.requires.token ∙ ap (λ m. mark m ∷ drop (at + 1) t) c.if-mark-eq-INT_WORD.true) h (λ g. refl))
    (let w = c.requires.inside.0 in omega arith)

pub returns-then-mark-eq-BOOL_SET_WORD-clause-holds :
    goal.returns-then-mark-eq-BOOL_SET_WORD-clause-holds
returns-then-mark-eq-BOOL_SET_WORD-clause-holds c = λ whole bs h.
    let t = c.args.reader.now in let at = c.args.at in
    c.leaf-then-mark-eq-BOOL_SET_WORD.ensures.holds whole bs
    (moves.leaf whole bs c.args.goal (drop at t) (mark bool_set_word ∷ drop (at + 1) t) (drop (at + 1) t) bool_type
    (c.requires.token ∙ ap (λ m. mark m ∷ drop (at + 1) t) c.if-mark-eq-BOOL_SET_WORD.true) h (λ g. refl))
    (let w = c.requires.inside.0 in omega arith)
