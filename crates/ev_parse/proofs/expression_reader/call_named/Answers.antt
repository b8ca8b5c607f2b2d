use Rattle.std.proofs.Common.{[], ◌∷◌, ◌++◌, ◌+◌, drop, refl, subst, sym, ◌∙◌, arith}
use Rattle.std.specs.Prelude.{Some, None}
use Rattle.ev_syntax.specs.Marks.{dot, open_brace}
use Rattle.ev_syntax.specs.inner.BinderAnswers.{BindersAnswer}
use Rattle.ev_syntax.proofs.TypeMoves.{begins_at}
use Rattle.ev_parse.specs.inner.Frames.{tail, body_behind}
use Rattle.ev_parse.proofs.BraceMoves.{members_part, collected_part}
use Rattle.ev_parse.proofs.expression_reader.call_named.Goals as goal

pub returns-then-not-is_mark-clause-holds : goal.returns-then-not-is_mark-clause-holds
returns-then-not-is_mark-clause-holds c = λ whole bs h. let t = c.args.reader.now in let at = c.args.at in
    let a = subst (BindersAnswer c.args.limit t (at + 1)) c.in-Some.is c.in_ok-binders.ensures in
    c.call_members.ensures.holds whole bs (members_part whole bs (tail c.args.k) (drop at t) (drop (at + 1) t) c.requires.token c.requires.open h c.requires.named
    (Some (a.0, drop c.in-Some.to t), a.2, sym c.is_mark.ensures.is ∙ c.if-not-is_mark.true))

pub returns-in-None-clause-holds : goal.returns-in-None-clause-holds
returns-in-None-clause-holds c = λ whole bs h. let t = c.args.reader.now in let at = c.args.at in
    let a = subst (BindersAnswer c.args.limit t (at + 1)) c.in-None.is c.in_ok-binders.ensures in
    c.call_members-in-None.ensures.holds whole bs (members_part whole bs (tail c.args.k) (drop at t) (drop (at + 1) t) c.requires.token c.requires.open h c.requires.named (None, a, tt))

pub returns-else-not-is_mark-clause-holds : goal.returns-else-not-is_mark-clause-holds
returns-else-not-is_mark-clause-holds c = λ whole bs h. let t = c.args.reader.now in let at = c.args.at in
    let a = subst (BindersAnswer c.args.limit t (at + 1)) c.in-Some.is c.in_ok-binders.ensures in (
      tail c.args.k ++ body_behind open_brace a.0 ∷ [],
      (a.0, a.1, refl),
      (
        collected_part whole bs (tail c.args.k) (drop at t) (drop (at + 1) t) c.requires.token c.requires.open h a.0 (drop c.in-Some.to t) (drop (c.in-Some.to + 1) t) a.2
            (begins_at dot t c.in-Some.to (sym c.is_mark.ensures.is ∙ c.if-not-is_mark.false)),
        (let w = (c.is_mark.ensures.inside c.if-not-is_mark.false).0 in omega arith),
      ),
    )
