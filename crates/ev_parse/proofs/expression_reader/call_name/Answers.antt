use Rattle.std.proofs.Common.{◌≡◌, [], ◌∷◌, ◌++◌, ◌+◌, drop, refl, ap, subst, sym, ◌∙◌, arith}
use Rattle.std.specs.Prelude.{Some}
use Rattle.ev_syntax.specs.Marks.{open_paren}
use Rattle.ev_syntax.specs.Tokens.{name, mark}
use Rattle.ev_syntax.specs.Raw.{call, none}
use Rattle.ev_syntax.specs.inner.RawView.{raws}
use Rattle.ev_parse.specs.inner.Frames.{tail, args_behind, level_at}
use Rattle.ev_syntax.proofs.TypeMoves.{begins_at, two_on}
use Rattle.ev_parse.proofs.LevelMoves.{args_part, name_part}
use Rattle.ev_parse.proofs.LevelMoves as moves
use Rattle.ev_parse.proofs.expression_reader.call_name.Goals as goal

pub returns-then-is_mark-clause-holds : goal.returns-then-is_mark-clause-holds
returns-then-is_mark-clause-holds c = λ whole bs h.
    let n = c.requires.token.0 in let e = c.requires.token.1 in let t = c.args.reader.now in let at = c.args.at in let x = c.in_ok-name.name in
    let same : x ≡ n = c.in_ok-name.ensures n _ e in
    let paren : drop (at + 1) t ≡ mark open_paren ∷ drop ((at + 1) + 1) t = begins_at open_paren t (at + 1) (sym c.is_mark.ensures.is ∙ c.if-is_mark.true) in (
      tail c.args.k ++ args_behind x [] ∷ [],
      ([], (c.new.ensures, refl, omega arith), refl),
      (
        moves.part_inner whole bs (tail c.args.k) (args_behind x []) (level_at 0 (drop (at + 2) t)) (drop at t) (name x ∷ mark open_paren ∷ drop (at + 2) t)
            (two_on t at (name n) (mark open_paren) e paren ∙ ap (λ y. name y ∷ mark open_paren ∷ drop (at + 2) t) (sym same)) h (λ g. args_part x (drop (at + 2) t) g),
        (let w = (c.is_mark.ensures.inside c.if-is_mark.true).0 in omega arith),
        omega arith,
      ),
    )

pub returns-clause-holds : goal.returns-clause-holds
returns-clause-holds c = λ whole bs h.
    let n = c.requires.token.0 in let e = c.requires.token.1 in let t = c.args.reader.now in let at = c.args.at in let x = c.in_ok-name.name in
    let same : x ≡ n = c.in_ok-name.ensures n _ e in
    c.leaf.ensures.holds whole bs
    (subst (λ y. moves.Below whole bs (tail c.args.k) (Some (y, drop (at + 1) t))) (ap (λ y. call y none) (sym same) ∙ ap (λ ys. call x (raws ys)) (sym c.new-2.ensures))
    (moves.part_found whole bs (tail c.args.k) (drop at t) (name n ∷ drop (at + 1) t) (Some (call n none, drop (at + 1) t)) e h
    (λ g. name_part n (drop (at + 1) t) g (sym c.is_mark.ensures.is ∙ c.if-is_mark.false))))
    (let w = c.requires.inside.0 in omega arith)
