use Rattle.std.proofs.Common.{[], ◌∷◌, ◌++◌, ◌+◌, drop, refl, sym, ◌∙◌, arith}
use Rattle.ev_syntax.specs.Marks.{open_paren, pow_word}
use Rattle.ev_syntax.specs.Tokens.{mark}
use Rattle.ev_syntax.specs.inner.TypeFrames.{type_tail, closed_pow}
use Rattle.ev_syntax.proofs.TypeMoves.{begins_at, two_on, pow_atom}
use Rattle.ev_syntax.proofs.TypeMoves as moves
use Rattle.ev_syntax.proofs.type_reader.call_pow.Goals as goal

pub returns-then-not-is_mark-clause-holds : goal.returns-then-not-is_mark-clause-holds
returns-then-not-is_mark-clause-holds c = λ whole bs h.
    let t = c.args.reader.now in let at = c.args.at in
    moves.no_leaf whole bs c.args.goal (drop at t) (mark pow_word ∷ drop (at + 1) t) c.requires.token h
    (λ g. pow_atom (drop (at + 1) t) g (sym c.is_mark.ensures.is ∙ c.if-not-is_mark.true))

pub returns-clause-holds : goal.returns-clause-holds
returns-clause-holds c = λ whole bs h.
    let t = c.args.reader.now in let at = c.args.at in (
      type_tail c.args.goal ++ closed_pow ∷ [],
      refl,
      (
        moves.inner whole bs c.args.goal closed_pow (drop at t) (mark pow_word ∷ mark open_paren ∷ drop (at + 2) t) (drop (at + 2) t)
            (two_on t at (mark pow_word) (mark open_paren) c.requires.token (begins_at open_paren t (at + 1) (sym c.is_mark.ensures.is ∙ c.if-not-is_mark.false))) h (λ g. refl),
        let w = (c.is_mark.ensures.inside c.if-not-is_mark.false).0 in omega arith,
      ),
    )
