use Rattle.std.proofs.Common.{[], ◌∷◌, ◌++◌, ◌+◌, drop, refl, subst}
use Rattle.ev_syntax.specs.Marks.{dot}
use Rattle.ev_syntax.specs.inner.BinderAnswers.{BindersAnswer}
use Rattle.ev_parse.specs.inner.Frames.{stage_tail, quantified_behind}
use Rattle.ev_syntax.proofs.TypeMoves.{begins_at}
use Rattle.ev_parse.proofs.PredicateMoves as moves
use Rattle.ev_parse.proofs.predicate_reader.quantifier.Goals as goal

pub returns-in-Some-clause-holds : goal.returns-in-Some-clause-holds
returns-in-Some-clause-holds c = λ whole bs h. let t = c.args.reader.now in let at = c.args.at in let m = c.args.mark in let s = c.args.stage in
    let a = subst (BindersAnswer c.args.limit t (at + 1)) c.in-Some.is c.in_ok-binders.ensures in
    c.dot_then.ensures.holds whole bs (stage_tail s ++ quantified_behind m a.0 ∷ []) (a.0, a.1, refl)
    (λ d. moves.body_part whole bs s m (drop (at + 1) t) (drop c.in-Some.to t) _ a.0 h a.2 (begins_at dot t c.in-Some.to d))
    (λ d. moves.no_dot whole bs s m (drop (at + 1) t) (drop c.in-Some.to t) a.0 h a.2 d)

pub returns-in-None-clause-holds : goal.returns-in-None-clause-holds
returns-in-None-clause-holds c = λ whole bs h. let t = c.args.reader.now in let at = c.args.at in
    moves.no_binders whole bs c.args.stage c.args.mark (drop (at + 1) t) h (subst (BindersAnswer c.args.limit t (at + 1)) c.in-None.is c.in_ok-binders.ensures)
