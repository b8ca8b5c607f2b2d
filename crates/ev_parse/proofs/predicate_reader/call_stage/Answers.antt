use Rattle.std.proofs.Common.{[], ◌∷◌, ◌+◌, drop, refl, subst}
use Rattle.std.specs.Prelude.{Some}
use Rattle.ev_syntax.specs.Tokens.{name}
use Rattle.ev_syntax.specs.inner.TokenAt.{IsTokenAt}
use Rattle.ev_parse.proofs.PredicateMoves as moves
use Rattle.ev_parse.proofs.predicate_reader.call_stage.Goals as goal

pub returns-in-Some-Mark-clause-holds : goal.returns-in-Some-Mark-clause-holds
returns-in-Some-Mark-clause-holds c = λ whole bs le h. c.call_literal.ensures.holds whole bs (moves.to_literal whole bs c.args.stage (drop c.args.at c.args.reader.now) h)

pub returns-in-Some-Name-clause-holds : goal.returns-in-Some-Name-clause-holds
returns-in-Some-Name-clause-holds c = λ whole bs le h. let t = c.args.reader.now in let at = c.args.at in
    let s = subst (λ x. IsTokenAt (Some x) t at) c.in-Some-Name.field-0-is c.in-Some-Name.ensures.token in
    c.relation.ensures.holds whole bs le (moves.part_before whole bs c.args.stage (drop at t) (name s.0 ∷ drop (at + 1) t) s.1 (moves.to_literal whole bs c.args.stage (drop at t) h) (λ g. refl))

pub returns-in-Some-Number-clause-holds : goal.returns-in-Some-Number-clause-holds
returns-in-Some-Number-clause-holds c = λ whole bs le h. let t = c.args.reader.now in let at = c.args.at in
    let s = subst (λ x. IsTokenAt (Some x) t at) c.in-Some-Number.field-0-is c.in-Some-Number.ensures.token in
    c.relation-in-Some-Number.ensures.holds whole bs le (moves.part_before whole bs c.args.stage (drop at t) _ s (moves.to_literal whole bs c.args.stage (drop at t) h) (λ g. refl))

pub returns-in-None-clause-holds : goal.returns-in-None-clause-holds
returns-in-None-clause-holds c = λ whole bs le h. let t = c.args.reader.now in let at = c.args.at in
    c.relation-in-None.ensures.holds whole bs le (moves.part_before whole bs c.args.stage (drop at t) [] c.in-None.ensures.token (moves.to_literal whole bs c.args.stage (drop at t) h) (λ g. refl))
