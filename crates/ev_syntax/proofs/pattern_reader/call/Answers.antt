use Rattle.std.proofs.Common.{◌+◌, [], ◌∷◌, ◌++◌, drop, subst, sym, ◌∙◌, refl, arith}
use Rattle.std.specs.Prelude.{Some, None}
use Rattle.ev_syntax.specs.Marks.{open_paren}
use Rattle.ev_syntax.specs.Raw.{bound}
use Rattle.ev_syntax.specs.inner.BinderAnswers.{BinderAnswer}
use Rattle.ev_syntax.specs.inner.PatternFrames.{pattern_tail, closed}
use Rattle.ev_syntax.proofs.TypeMoves.{begins_at}
use Rattle.ev_syntax.proofs.PatternMoves as moves
use Rattle.ev_syntax.proofs.pattern_reader.call.Goals as goal

pub returns-then-is_mark-clause-holds : goal.returns-then-is_mark-clause-holds
returns-then-is_mark-clause-holds c = λ whole bs h. let t = c.args.reader.now in let at = c.args.at in (
  pattern_tail c.args.goal ++ closed ∷ [],
  refl,
  (
    moves.paren_opens whole bs c.args.goal (drop at t) (drop (at + 1) t) (begins_at open_paren t at (sym c.is_mark.ensures.is ∙ c.if-is_mark.true)) h,
    let w = (c.is_mark.ensures.inside c.if-is_mark.true).0 in omega arith,
  ),
)

pub returns-in_ok-piece-in-Some-clause-holds : goal.returns-in_ok-piece-in-Some-clause-holds
returns-in_ok-piece-in-Some-clause-holds c = λ whole bs h. let t = c.args.reader.now in let at = c.args.at in
    let a = subst (BinderAnswer c.args.limit t at) c.in-Some.is c.in_ok-binder.ensures in
    (bound a.0, c.in_ok-piece-in-Some.ensures a.0 a.1, moves.one_name whole bs c.args.goal (drop at t) (Some (a.0, drop c.in-Some.to t)) (sym c.is_mark.ensures.is ∙ c.if-is_mark.false) a.2 h, a.3)

pub returns-in-None-clause-holds : goal.returns-in-None-clause-holds
returns-in-None-clause-holds c = λ whole bs h. let t = c.args.reader.now in let at = c.args.at in
    moves.nothing whole bs c.args.goal (moves.one_name whole bs c.args.goal (drop at t) None (sym c.is_mark.ensures.is ∙ c.if-is_mark.false) (subst (BinderAnswer c.args.limit t at) c.in-None.is c.in_ok-binder.ensures) h)
