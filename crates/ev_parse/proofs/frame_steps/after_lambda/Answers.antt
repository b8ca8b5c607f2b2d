use Rattle.std.proofs.Common.{[], ◌∷◌, ◌+◌, drop, refl, subst, sym, ◌∙◌, arith}
use Rattle.ev_syntax.specs.Marks.{bar}
use Rattle.ev_syntax.proofs.TypeMoves.{begins_at, expect_no}
use Rattle.ev_syntax.proofs.Resumes.{found_inside, work_inside, nothing_inside, settles_bind}
use Rattle.ev_syntax.specs.inner.Resuming.{Settles}
use Rattle.std.specs.Prelude.{None}
use Rattle.ev_parse.specs.inner.Frames.{lambda_body_behind, lambda_value_behind, level_at}
use Rattle.ev_parse.proofs.OperandMoves.{FoundBy}
use Rattle.ev_parse.proofs.frame_steps.after_lambda.Goals as goal

pub returns-then-is_mark-clause-holds : goal.returns-then-is_mark-clause-holds
returns-then-is_mark-clause-holds c = λ whole bs cs r f p h le. let t = c.args.source.now.reader.now in let at = c.args.at in (
  lambda_value_behind f.0 r ∷ [],
  (f.0, r, f.1, p, refl),
  (
    work_inside whole bs [] (lambda_body_behind f.0) (lambda_value_behind f.0 r) r (drop at t) (level_at 0 (drop (at + 1) t)) (subst (λ xs. FoundBy whole bs xs r (drop at t)) f.2 h)
        (λ x z k s. subst (λ xs. Settles (λ n g. lambda_body_behind f.0 n g r xs) z) (sym (begins_at bar t at (sym c.is_mark.ensures.is ∙ c.if-is_mark.true)))
        (settles_bind (level_at 0 (drop (at + 1) t)) (λ n g. lambda_value_behind f.0 r n g) x z k s)),
    (let w = (c.is_mark.ensures.inside c.if-is_mark.true).0 in omega arith),
    omega arith,
  ),
)

pub returns-clause-holds : goal.returns-clause-holds
returns-clause-holds c = λ whole bs cs r f p h le. let t = c.args.source.now.reader.now in let at = c.args.at in
    nothing_inside whole bs [] (found_inside whole bs [] (lambda_body_behind f.0) r (drop at t) None (subst (λ xs. FoundBy whole bs xs r (drop at t)) f.2 h) (λ n g. expect_no bar (drop at t) _ (sym c.is_mark.ensures.is ∙ c.if-is_mark.false)))
