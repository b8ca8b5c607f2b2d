use Rattle.std.proofs.Common.{◌+◌, ◌∷◌, [], ◌++◌, subst, sym, ◌∙◌, drop, arith}
use Rattle.std.specs.Prelude.{None}
use Rattle.ev_syntax.specs.Marks.{comma}
use Rattle.ev_syntax.specs.inner.BinderAnswers.{BinderAnswer}
use Rattle.ev_syntax.proofs.TypeMoves.{begins_at}
use Rattle.ev_syntax.proofs.BinderMoves.{next_binder, no_next_binder, last_binder}
use Rattle.ev_syntax.proofs.binder_reader.further_binders.Goals as goal

pub loop-alloc-init : goal.loop-alloc-init
loop-alloc-init c = (λ bs p. (bs, p, λ o s. s), c.requires, omega arith)

pub loop-alloc-preserved : goal.loop-alloc-preserved
loop-alloc-preserved c = let t = c.args.reader.now in let at = c.loop-alloc.at in let v = c.loop-alloc.invariant in
    let a = subst (BinderAnswer c.args.limit t (at + 1)) c.in-Some.is c.in_ok-binder.ensures in (
      λ bs p. let i = v.0 bs p in (
        i.0 ++ a.0 ∷ [],
        c.in_ok-binders-in-Some.ensures i.0 a.0 i.1 a.1,
        λ o s. i.2 o (next_binder i.0 a.0 (drop at t) (drop (at + 1) t) (drop c.in-Some.to t) o (begins_at comma t at (sym c.is_mark.ensures.is ∙ c.loop-alloc-test.true)) a.2 s),
      ),
      a.3,
      let w = a.4 in let x = v.2 in omega arith,
    )

pub returns-in-None : goal.returns-in-None
returns-in-None c = λ bs p. let t = c.args.reader.now in let at = c.loop-alloc.at in let i = c.loop-alloc.invariant.0 bs p in
    i.2 None (no_next_binder i.0 (drop at t) (drop (at + 1) t) (begins_at comma t at (sym c.is_mark.ensures.is ∙ c.loop-alloc-test.true))
    (subst (BinderAnswer c.args.limit t (at + 1)) c.in-None.is c.in_ok-binder.ensures))

pub returns : goal.returns
returns c = λ bs p. let t = c.args.reader.now in let at = c.loop-alloc.at in let v = c.loop-alloc.invariant in let i = v.0 bs p in
    (i.0, i.1, i.2 _ (last_binder i.0 (drop at t) (sym c.is_mark.ensures.is ∙ c.loop-alloc-test.false)), v.1, v.2)
