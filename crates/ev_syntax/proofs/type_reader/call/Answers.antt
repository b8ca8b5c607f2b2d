use Rattle.std.proofs.Common.{[], ◌∷◌, ◌+◌, drop, refl, subst}
use Rattle.std.specs.Prelude.{Some}
use Rattle.ev_syntax.specs.Tokens.{number}
use Rattle.ev_syntax.specs.inner.TokenAt.{IsTokenAt}
use Rattle.ev_syntax.proofs.TypeMoves as moves
use Rattle.ev_syntax.proofs.type_reader.call.Goals as goal

pub returns-in-Some-Number-clause-holds : goal.returns-in-Some-Number-clause-holds
returns-in-Some-Number-clause-holds c = λ whole bs h.
    moves.no_leaf whole bs c.args.goal (drop c.args.at c.args.reader.now) (number c.in-Some-Number.field-0-0 ∷ drop (c.args.at + 1) c.args.reader.now)
    (subst (λ k. IsTokenAt (Some k) c.args.reader.now c.args.at) c.in-Some-Number.field-0-is c.in-Some-Number.ensures.token) h (λ g. refl)

pub returns-in-None-clause-holds : goal.returns-in-None-clause-holds
returns-in-None-clause-holds c = λ whole bs h.
    moves.no_leaf whole bs c.args.goal (drop c.args.at c.args.reader.now) [] c.in-None.ensures.token h (λ g. refl)
