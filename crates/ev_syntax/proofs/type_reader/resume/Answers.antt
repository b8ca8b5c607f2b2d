use Rattle.std.proofs.Common.{drop, subst}
use Rattle.ev_syntax.specs.Raw.{prod_type}
use Rattle.ev_syntax.specs.inner.TypeFrames.{IsFrame}
use Rattle.ev_syntax.proofs.TypeMoves as moves
use Rattle.ev_syntax.proofs.type_reader.resume.Goals as goal

pub returns-in-Paren-clause-holds : goal.returns-in-Paren-clause-holds
returns-in-Paren-clause-holds c = λ whole bs one r f p h le. let i = subst (λ x. IsFrame c.args.limit x one) c.in-Paren.is f in
    c.close.ensures.holds whole bs r p (moves.paren whole bs c.in-Paren.goal r (drop c.args.at c.args.reader.now) (subst (λ xs. moves.FoundBy whole bs xs r (drop c.args.at c.args.reader.now)) i h))

pub returns-in_ok-piece-in-Pow-clause-holds : goal.returns-in_ok-piece-in-Pow-clause-holds
returns-in_ok-piece-in-Pow-clause-holds c = λ whole bs one r f p h le. let i = subst (λ x. IsFrame c.args.limit x one) c.in-Pow.is f in
    c.close-in-Pow.ensures.holds whole bs _ (c.in_ok-piece-in-Pow.ensures r p) (moves.pow whole bs c.in-Pow.goal r (drop c.args.at c.args.reader.now) (subst (λ xs. moves.FoundBy whole bs xs r (drop c.args.at c.args.reader.now)) i h))

pub returns-in_ok-piece-in-Factor-clause-holds : goal.returns-in_ok-piece-in-Factor-clause-holds
returns-in_ok-piece-in-Factor-clause-holds c = λ whole bs one r f p h le. let i = subst (λ x. IsFrame c.args.limit x one) c.in-Factor.is f in (
  prod_type i.0 r,
  c.in_ok-piece-in-Factor.ensures i.0 r i.1 p,
  moves.factor whole bs i.0 r (drop c.args.at c.args.reader.now) (subst (λ xs. moves.FoundBy whole bs xs r (drop c.args.at c.args.reader.now)) i.2 h),
  le,
)

pub returns-in_ok-types-in-Types-clause-holds : goal.returns-in_ok-types-in-Types-clause-holds
returns-in_ok-types-in-Types-clause-holds c = λ whole bs one r f p h le. let i = subst (λ x. IsFrame c.args.limit x one) c.in-Types.is f in
    c.further.ensures.holds whole bs i.0 r (c.in_ok-types-in-Types.ensures i.0 r i.1 p) (subst (λ xs. moves.FoundBy whole bs xs r (drop c.args.at c.args.reader.now)) i.2 h)
