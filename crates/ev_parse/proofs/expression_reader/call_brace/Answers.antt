use Rattle.std.proofs.Common.{[], ◌∷◌, ◌++◌, ◌+◌, drop, refl, ap, subst, sym, ◌∙◌, arith}
use Rattle.std.specs.Prelude.{Some, None}
use Rattle.ev_syntax.specs.Marks.{open_brace, close_brace, bar}
use Rattle.ev_syntax.specs.Tokens.{mark}
use Rattle.ev_syntax.specs.Raw.{members, none}
use Rattle.ev_syntax.specs.inner.RawView.{raws}
use Rattle.ev_syntax.specs.inner.BinderAnswers.{BinderAnswer}
use Rattle.ev_syntax.proofs.TypeMoves.{begins_at, two_on}
use Rattle.ev_parse.specs.inner.Frames.{tail, set_behind}
use Rattle.ev_parse.proofs.BraceMoves.{members_part, set_part, no_binders}
use Rattle.ev_parse.proofs.LevelMoves as moves
use Rattle.ev_parse.proofs.expression_reader.call_brace.Goals as goal

pub returns-then-is_mark-clause-holds : goal.returns-then-is_mark-clause-holds
returns-then-is_mark-clause-holds c = λ whole bs h. let t = c.args.reader.now in let at = c.args.at in
    c.leaf.ensures.holds whole bs
    (subst (λ y. moves.Below whole bs (tail c.args.k) (Some (y, drop (at + 2) t))) (ap (λ ys. members (raws ys)) (sym c.new.ensures))
    (moves.part_found whole bs (tail c.args.k) (drop at t) (mark open_brace ∷ mark close_brace ∷ drop (at + 2) t) (Some (members none, drop (at + 2) t))
    (two_on t at (mark open_brace) (mark close_brace) c.requires.token (begins_at close_brace t (at + 1) (sym c.is_mark.ensures.is ∙ c.if-is_mark.true))) h (λ g. refl)))
    (let w = (c.is_mark.ensures.inside c.if-is_mark.true).0 in omega arith)

pub returns-in-None-clause-holds : goal.returns-in-None-clause-holds
returns-in-None-clause-holds c = λ whole bs h. let t = c.args.reader.now in let at = c.args.at in
    let a = subst (BinderAnswer c.args.limit t (at + 1)) c.in-None.is c.in_ok-binder.ensures in
    c.call_members.ensures.holds whole bs
    (members_part whole bs (tail c.args.k) (drop at t) (drop (at + 1) t) c.requires.token (sym c.is_mark.ensures.is ∙ c.if-is_mark.false) h (None, a, tt) (no_binders (drop (at + 1) t) a))

pub returns-else-not-is_mark-clause-holds : goal.returns-else-not-is_mark-clause-holds
returns-else-not-is_mark-clause-holds c = λ whole bs h. let t = c.args.reader.now in let at = c.args.at in
    let a = subst (BinderAnswer c.args.limit t (at + 1)) c.in-Some.is c.in_ok-binder.ensures in (
      tail c.args.k ++ set_behind a.0 ∷ [],
      (a.0, a.1, refl),
      (
        set_part whole bs (tail c.args.k) (drop at t) (drop (at + 1) t) c.requires.token (sym c.is_mark.ensures.is ∙ c.if-is_mark.false) h a.0 (drop c.in-Some.to t) (drop (c.in-Some.to + 1) t) a.2
            (begins_at bar t c.in-Some.to (sym c.is_mark-in-Some.ensures.is ∙ c.if-not-is_mark.false)),
        (let w = (c.is_mark-in-Some.ensures.inside c.if-not-is_mark.false).0 in omega arith),
      ),
    )

pub call_named-requires-clause-named : goal.call_named-requires-clause-named
call_named-requires-clause-named c = let t = c.args.reader.now in let at = c.args.at in
    let a = subst (BinderAnswer c.args.limit t (at + 1)) c.in-Some.is c.in_ok-binder.ensures in
    (Some (a.0, drop c.in-Some.to t), a.2, sym c.is_mark-in-Some.ensures.is ∙ c.if-not-is_mark.true)
