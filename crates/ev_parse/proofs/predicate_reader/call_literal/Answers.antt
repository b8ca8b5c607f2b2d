use Rattle.std.proofs.Common.{[], ◌∷◌, ◌++◌, ◌+◌, drop, refl, ap, ◌∙◌, arith}
use Rattle.std.specs.Prelude.{Some}
use Rattle.ev_syntax.specs.Marks.{not_word, for_all_sign, for_some_sign, true_word, false_word}
use Rattle.ev_syntax.specs.Tokens.{mark}
use Rattle.ev_syntax.specs.Raw.{word}
use Rattle.ev_parse.specs.declared.states.Stage.TheVariants.{Lit}
use Rattle.ev_parse.specs.inner.Frames.{stage_tail, stage_at, not_behind, quantifying}
use Rattle.ev_syntax.proofs.TypeMoves.{not_eq}
use Rattle.ev_parse.proofs.PredicateMoves as moves
use Rattle.ev_parse.proofs.predicate_reader.call_literal.Goals as goal

pub returns-then-mark-eq-NOT_WORD-clause-holds : goal.returns-then-mark-eq-NOT_WORD-clause-holds
returns-then-mark-eq-NOT_WORD-clause-holds c = λ whole bs h. let t = c.args.reader.now in let at = c.args.at in let us = drop (at + 1) t in (
  stage_tail c.args.stage ++ not_behind ∷ [],
  refl,
  (
    moves.part_inner whole bs c.args.stage not_behind (stage_at Lit us) (drop at t) (mark not_word ∷ us) (c.requires.token ∙ ap (λ m. mark m ∷ us) c.if-mark-eq-NOT_WORD.true) h (λ g. refl),
    let w = c.requires.inside.0 in omega arith,
  ),
)

pub returns-then-mark-eq-FOR_ALL_SIGN-clause-holds : goal.returns-then-mark-eq-FOR_ALL_SIGN-clause-holds
returns-then-mark-eq-FOR_ALL_SIGN-clause-holds c = λ whole bs h. let t = c.args.reader.now in let at = c.args.at in let us = drop (at + 1) t in
    c.quantifier.ensures.holds whole bs
    (moves.part_same whole bs c.args.stage (quantifying for_all_sign us) (drop at t) (mark for_all_sign ∷ us) (c.requires.token ∙ ap (λ m. mark m ∷ us) c.if-mark-eq-FOR_ALL_SIGN.true) h (λ g. refl))

pub returns-then-mark-eq-FOR_SOME_SIGN-clause-holds : goal.returns-then-mark-eq-FOR_SOME_SIGN-clause-holds
returns-then-mark-eq-FOR_SOME_SIGN-clause-holds c = λ whole bs h. let t = c.args.reader.now in let at = c.args.at in let us = drop (at + 1) t in
    c.quantifier-then-mark-eq-FOR_SOME_SIGN.ensures.holds whole bs
    (moves.part_same whole bs c.args.stage (quantifying for_some_sign us) (drop at t) (mark for_some_sign ∷ us) (c.requires.token ∙ ap (λ m. mark m ∷ us) c.if-mark-eq-FOR_SOME_SIGN.true) h (λ g. refl))

pub returns-then-mark-eq-TRUE_WORD-clause-holds : goal.returns-then-mark-eq-TRUE_WORD-clause-holds
returns-then-mark-eq-TRUE_WORD-clause-holds c = λ whole bs h. let t = c.args.reader.now in let at = c.args.at in let us = drop (at + 1) t in
    c.truth.ensures.holds whole bs
    (moves.part_found whole bs c.args.stage (drop at t) (mark true_word ∷ us) (Some (word true_word, us)) (c.requires.token ∙ ap (λ m. mark m ∷ us) c.if-mark-eq-TRUE_WORD.true) h (λ g. refl))

pub returns-then-mark-eq-FALSE_WORD-clause-holds : goal.returns-then-mark-eq-FALSE_WORD-clause-holds
returns-then-mark-eq-FALSE_WORD-clause-holds c = λ whole bs h. let t = c.args.reader.now in let at = c.args.at in let us = drop (at + 1) t in
    c.truth-then-mark-eq-FALSE_WORD.ensures.holds whole bs
    (moves.part_found whole bs c.args.stage (drop at t) (mark false_word ∷ us) (Some (word false_word, us)) (c.requires.token ∙ ap (λ m. mark m ∷ us) c.if-mark-eq-FALSE_WORD.true) h (λ g. refl))

pub returns-clause-holds : goal.returns-clause-holds
returns-clause-holds c = λ whole bs h. let t = c.args.reader.now in let at = c.args.at in let us = drop (at + 1) t in
    c.relation.ensures.holds whole bs (let w = c.requires.inside.0 in omega arith)
    (moves.part_before whole bs c.args.stage (drop at t) (mark c.args.mark ∷ us) c.requires.token h
    (λ g. moves.other_literal c.args.mark us g (not_eq _ _ c.if-mark-eq-NOT_WORD.false) (not_eq _ _ c.if-mark-eq-FOR_ALL_SIGN.false) (not_eq _ _ c.if-mark-eq-FOR_SOME_SIGN.false)
    (not_eq _ _ c.if-mark-eq-TRUE_WORD.false) (not_eq _ _ c.if-mark-eq-FALSE_WORD.false) (not_eq _ _ c.if-mark-eq-FINITE_WORD.false) (not_eq _ _ c.if-mark-eq-OPEN_PAREN.false)))
