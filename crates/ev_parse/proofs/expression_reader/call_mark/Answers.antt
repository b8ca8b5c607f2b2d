use Rattle.std.proofs.Common.{◌≡◌, ◌∷◌, ◌+◌, drop, refl, ap, subst, ◌∙◌, arith, inl, inr}
use Rattle.ev_syntax.specs.Marks.{union_over_word, inter_over_word}
use Rattle.ev_syntax.specs.Tokens.{mark}
use Rattle.ev_syntax.specs.inner.Resuming.{FromCall}
use Rattle.ev_parse.specs.inner.Frames.{level_at}
use Rattle.ev_syntax.proofs.TypeMoves.{not_eq}
use Rattle.ev_parse.proofs.LevelMoves.{to_primary, plain_mark, not_special}
use Rattle.ev_parse.proofs.LevelMoves as moves
use Rattle.ev_parse.proofs.expression_reader.call_mark.Goals as goal

pub returns-then-k-gt0-clause-holds : goal.returns-then-k-gt0-clause-holds
returns-then-k-gt0-clause-holds c = λ whole bs le h. let t = c.args.reader.now in let at = c.args.at in
    c.call_primary.ensures.holds whole bs
    (to_primary whole c.args.k bs (drop at t) le (plain_mark c.args.k 9 c.args.mark (drop at t) (drop (at + 1) t) c.requires.token (inl (not_eq _ _ c.if-mark-eq-MINUS_SIGN.false)) (inr c.if-k-gt0.true)) h)

pub returns-clause-holds : goal.returns-clause-holds
returns-clause-holds c = λ whole bs le h. let t = c.args.reader.now in let at = c.args.at in
    c.call_primary-2.ensures.holds whole bs
    (to_primary whole c.args.k bs (drop at t) le (plain_mark c.args.k 9 c.args.mark (drop at t) (drop (at + 1) t) c.requires.token (inl (not_eq _ _ c.if-mark-eq-MINUS_SIGN.false))
    (inl (not_special c.args.mark (not_eq _ _ c.if-mark-eq-LAMBDA_SIGN.false) (not_eq _ _ c.if-mark-eq-UNION_OVER_WORD.false) (not_eq _ _ c.if-mark-eq-INTER_OVER_WORD.false)))) h)

pub returns-then-mark-eq-LAMBDA_SIGN-clause-holds : goal.returns-then-mark-eq-LAMBDA_SIGN-clause-holds
returns-then-mark-eq-LAMBDA_SIGN-clause-holds c = λ whole bs le h. let w = c.if-k-gt0.false in let z : c.args.k ≡ 0 = omega arith in
    c.call_lambda.ensures.holds whole bs (subst (λ i. FromCall whole bs (level_at i (drop c.args.at c.args.reader.now))) z h)

pub returns-then-mark-eq-UNION_OVER_WORD-clause-holds : goal.returns-then-mark-eq-UNION_OVER_WORD-clause-holds
returns-then-mark-eq-UNION_OVER_WORD-clause-holds c = λ whole bs le h. let w = c.if-k-gt0.false in let z : c.args.k ≡ 0 = omega arith in let t = c.args.reader.now in let at = c.args.at in
    c.collect.ensures.holds whole bs (moves.over_part whole bs union_over_word (drop at t) (drop (at + 1) t) (c.requires.token ∙ ap (λ m. mark m ∷ drop (at + 1) t) c.if-mark-eq-UNION_OVER_WORD.true) (λ g. refl)
    (subst (λ i. FromCall whole bs (level_at i (drop at t))) z h))

pub returns-then-mark-eq-INTER_OVER_WORD-clause-holds : goal.returns-then-mark-eq-INTER_OVER_WORD-clause-holds
returns-then-mark-eq-INTER_OVER_WORD-clause-holds c = λ whole bs le h. let w = c.if-k-gt0.false in let z : c.args.k ≡ 0 = omega arith in let t = c.args.reader.now in let at = c.args.at in
    c.collect-then-mark-eq-INTER_OVER_WORD.ensures.holds whole bs (moves.over_part whole bs inter_over_word (drop at t) (drop (at + 1) t) (c.requires.token ∙ ap (λ m. mark m ∷ drop (at + 1) t) c.if-mark-eq-INTER_OVER_WORD.true) (λ g. refl)
    (subst (λ i. FromCall whole bs (level_at i (drop at t))) z h))
