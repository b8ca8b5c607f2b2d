use Rattle.std.proofs.Common.{drop, subst, sym, ◌∙◌, arith}
use Rattle.std.specs.Prelude.{Some}
use Rattle.ev_syntax.specs.Marks.{close_paren}
use Rattle.ev_syntax.specs.Raw.{pair}
use Rattle.ev_syntax.specs.inner.PatternFrames.{IsFrame}
use Rattle.ev_syntax.proofs.TypeMoves.{closes, expect_no}
use Rattle.ev_syntax.proofs.PatternMoves as moves
use Rattle.ev_syntax.proofs.pattern_reader.resume.Goals as goal

pub returns-then-is_mark-clause-holds : goal.returns-then-is_mark-clause-holds
returns-then-is_mark-clause-holds c = λ whole bs one x f p h le. let t = c.args.reader.now in let at = c.args.at in
    let i = subst (λ y. IsFrame c.args.limit y one) c.in-Paren.is f in (
      x,
      p,
      subst (moves.Answered whole bs c.in-Paren.goal) (closes close_paren t at (λ rest. Some (x, rest)) (sym c.is_mark.ensures.is ∙ c.if-is_mark.true))
          (moves.paren_ends whole bs c.in-Paren.goal x (drop at t) (subst (λ xs. moves.FoundBy whole bs xs x (drop at t)) i h)),
      let w = (c.is_mark.ensures.inside c.if-is_mark.true).0 in omega arith,
    )

pub returns-else-is_mark-clause-holds : goal.returns-else-is_mark-clause-holds
returns-else-is_mark-clause-holds c = λ whole bs one x f p h le. let t = c.args.reader.now in let at = c.args.at in
    let i = subst (λ y. IsFrame c.args.limit y one) c.in-Paren.is f in
    moves.nothing whole bs c.in-Paren.goal (subst (moves.Answered whole bs c.in-Paren.goal) (expect_no close_paren (drop at t) (λ rest. Some (x, rest)) (sym c.is_mark.ensures.is ∙ c.if-is_mark.false))
    (moves.paren_ends whole bs c.in-Paren.goal x (drop at t) (subst (λ xs. moves.FoundBy whole bs xs x (drop at t)) i h)))

pub returns-in_ok-piece-in-Pair-clause-holds : goal.returns-in_ok-piece-in-Pair-clause-holds
returns-in_ok-piece-in-Pair-clause-holds c = λ whole bs one x f p h le. let t = c.args.reader.now in let at = c.args.at in
    let i = subst (λ y. IsFrame c.args.limit y one) c.in-Pair.is f in
    (pair i.0 x, c.in_ok-piece-in-Pair.ensures i.0 x i.1 p, moves.paired whole bs i.0 x (drop at t) (subst (λ xs. moves.FoundBy whole bs xs x (drop at t)) i.2 h), le)
