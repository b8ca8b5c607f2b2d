use Rattle.std.proofs.Common.{◌≡◌, [], ◌∷◌, ◌++◌, ◌+◌, drop, refl, ap, subst, sym, ◌∙◌, arith}
use Rattle.ev_syntax.specs.Marks.{open_paren}
use Rattle.ev_syntax.specs.Tokens.{name, mark}
use Rattle.ev_syntax.specs.Raw.{named_type, no_types}
use Rattle.ev_syntax.specs.inner.TypeView.{raw_types}
use Rattle.ev_syntax.specs.inner.TypeFrames.{type_tail, types_behind}
use Rattle.ev_syntax.proofs.TypeMoves.{begins_at, two_on, name_atom}
use Rattle.ev_syntax.proofs.TypeMoves as moves
use Rattle.ev_syntax.proofs.type_reader.call_name.Goals as goal

pub returns-then-is_mark-clause-holds : goal.returns-then-is_mark-clause-holds
returns-then-is_mark-clause-holds c = λ whole bs h.
    let n = c.requires.token.0 in let e = c.requires.token.1 in let t = c.args.reader.now in let at = c.args.at in
    let same : c.in_ok-name.name ≡ n = c.in_ok-name.ensures n _ e in
    let paren : drop (at + 1) t ≡ mark open_paren ∷ drop ((at + 1) + 1) t = begins_at open_paren t (at + 1) (sym c.is_mark.ensures.is ∙ c.if-is_mark.true) in (
      type_tail c.args.goal ++ types_behind c.in_ok-name.name [] ∷ [],
      ([], (c.new.ensures, refl, omega arith), refl),
      (
        moves.inner whole bs c.args.goal (types_behind c.in_ok-name.name []) (drop at t) (name c.in_ok-name.name ∷ mark open_paren ∷ drop (at + 2) t) (drop (at + 2) t)
            (two_on t at (name n) (mark open_paren) e paren ∙ ap (λ x. name x ∷ mark open_paren ∷ drop (at + 2) t) (sym same)) h (λ g. refl),
        let w = (c.is_mark.ensures.inside c.if-is_mark.true).0 in omega arith,
      ),
    )

pub returns-clause-holds : goal.returns-clause-holds
returns-clause-holds c = λ whole bs h.
    let n = c.requires.token.0 in let e = c.requires.token.1 in let t = c.args.reader.now in let at = c.args.at in
    let same : c.in_ok-name.name ≡ n = c.in_ok-name.ensures n _ e in
    c.leaf.ensures.holds whole bs
    (subst (λ a. moves.Reaches whole bs c.args.goal a (drop (at + 1) t)) (ap (λ x. named_type x no_types) (sym same) ∙ ap (λ xs. named_type c.in_ok-name.name (raw_types xs)) (sym c.new-2.ensures))
    (moves.leaf whole bs c.args.goal (drop at t) (name n ∷ drop (at + 1) t) (drop (at + 1) t) (named_type n no_types) e h
    (λ g. name_atom n (drop (at + 1) t) g (sym c.is_mark.ensures.is ∙ c.if-is_mark.false))))
    (let w = c.requires.inside.0 in omega arith)
