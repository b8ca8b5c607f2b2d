use Rattle.std.proofs.Common.{◌≡◌, ◌+◌, ◌∷◌, subst, sym, ◌∙◌, drop, arith}
use Rattle.std.specs.Prelude.{Some}
use Rattle.ev_syntax.specs.Marks.{oftype_word}
use Rattle.ev_syntax.specs.Tokens.{name, mark}
use Rattle.ev_syntax.specs.inner.BinderParser.{typed_binder}
use Rattle.ev_syntax.specs.inner.TypeFrames.{TypeAnswer}
use Rattle.ev_syntax.proofs.TypeMoves.{begins_at, two_on}
use Rattle.ev_syntax.proofs.BinderMoves.{IsBinder, typed_name}
use Rattle.ev_syntax.proofs.binder_reader.named.Goals as goal

pub returns-in-Some : goal.returns-in-Some
returns-in-Some c =
    let n = c.requires.token.0 in let e = c.requires.token.1 in let t = c.args.reader.now in let at = c.args.at in
    let same : c.in_ok-name.name ≡ n = c.in_ok-name.ensures n _ e in
    let word : drop (at + 1) t ≡ mark oftype_word ∷ drop ((at + 1) + 1) t = begins_at oftype_word t (at + 1) (sym c.is_mark.ensures.is ∙ c.if-not-is_mark.false) in
    let a = subst (TypeAnswer c.args.limit t (at + 2)) c.in-Some.is c.in_ok-written.ensures in (
      typed_binder c.in_ok-name.name a.0,
      c.with_type.ensures c.args.limit a.0 a.1,
      subst (λ x. IsBinder (drop at t) (Some (typed_binder x a.0, drop c.in-Some.to t))) (sym same)
          (typed_name n (drop at t) (drop (at + 2) t) (Some (a.0, drop c.in-Some.to t)) (two_on t at (name n) (mark oftype_word) e word) a.2),
      a.3,
      let w = a.4 in omega arith,
    )

pub returns-in-None : goal.returns-in-None
returns-in-None c =
    let n = c.requires.token.0 in let e = c.requires.token.1 in let t = c.args.reader.now in let at = c.args.at in
    let word : drop (at + 1) t ≡ mark oftype_word ∷ drop ((at + 1) + 1) t = begins_at oftype_word t (at + 1) (sym c.is_mark.ensures.is ∙ c.if-not-is_mark.false) in
    typed_name n (drop at t) (drop (at + 2) t) _ (two_on t at (name n) (mark oftype_word) e word) (subst (TypeAnswer c.args.limit t (at + 2)) c.in-None.is c.in_ok-written.ensures)
