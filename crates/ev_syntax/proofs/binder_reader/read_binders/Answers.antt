use Rattle.std.proofs.Common.{◌∷◌, [], subst, refl, arith}
use Rattle.std.proofs.lemmas.Result.{IfOk-weaker}
use Rattle.ev_syntax.specs.inner.BinderAnswers.{BinderAnswer}
use Rattle.ev_syntax.proofs.BinderMoves.{from_first}
use Rattle.ev_syntax.proofs.binder_reader.read_binders.Goals as goal

pub returns-in_ok-first-in-Some : goal.returns-in_ok-first-in-Some
returns-in_ok-first-in-Some c = let t = c.args.reader.now in
    let a = subst (BinderAnswer c.args.limit t c.args.at) c.in-Some.is c.in_ok-binder.ensures in
    IfOk-weaker c.further_binders.result _ _ (λ o h. from_first c.args.limit t c.args.at c.in-Some.to a.0 a.2 a.4 o h)
    (c.further_binders.ensures (a.0 ∷ []) (c.in_ok-first-in-Some.ensures [] a.0 (c.new.ensures, refl, omega arith) a.1))
