use Rattle.std.proofs.Common.{[], ◌∷◌, ◌+◌, drop, refl, subst}
use Rattle.ev_syntax.specs.Marks.{dot}
use Rattle.ev_syntax.specs.inner.BinderAnswers.{PatternAnswer}
use Rattle.ev_parse.specs.inner.Frames.{lambda_body_behind}
use Rattle.ev_syntax.proofs.TypeMoves.{begins_at}
use Rattle.ev_parse.proofs.LevelMoves as moves
use Rattle.ev_parse.proofs.expression_reader.call_lambda.Goals as goal

pub returns-in-Some-clause-holds : goal.returns-in-Some-clause-holds
returns-in-Some-clause-holds c = λ whole bs h. let t = c.args.reader.now in let at = c.args.at in
    let a = subst (PatternAnswer c.args.limit t (at + 1)) c.in-Some.is c.in_ok-pattern.ensures in
    c.dot_then.ensures.holds whole bs (lambda_body_behind a.0 ∷ []) (a.0, a.1, refl)
    (λ d. moves.lambda_part whole bs (drop at t) (drop (at + 1) t) (drop c.in-Some.to t) _ a.0 c.requires.token h a.2 (begins_at dot t c.in-Some.to d))
    (λ d. moves.no_lambda_dot whole bs (drop at t) (drop (at + 1) t) (drop c.in-Some.to t) a.0 c.requires.token h a.2 d)

pub returns-in-None-clause-holds : goal.returns-in-None-clause-holds
returns-in-None-clause-holds c = λ whole bs h. let t = c.args.reader.now in let at = c.args.at in
    moves.no_pattern whole bs (drop at t) (drop (at + 1) t) c.requires.token h (subst (PatternAnswer c.args.limit t (at + 1)) c.in-None.is c.in_ok-pattern.ensures)
