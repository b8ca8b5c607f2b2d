use Rattle.std.proofs.Common.{[], ◌∷◌, ◌+◌, drop, refl, subst, arith}
use Rattle.std.specs.Prelude.{Some}
use Rattle.ev_syntax.specs.Tokens.{number}
use Rattle.ev_syntax.specs.Raw.{literal}
use Rattle.ev_syntax.specs.inner.TokenAt.{IsTokenAt}
use Rattle.ev_parse.specs.inner.Frames.{tail}
use Rattle.ev_parse.proofs.LevelMoves.{to_primary, plain_name, plain_number, plain_end}
use Rattle.ev_parse.proofs.LevelMoves as moves
use Rattle.ev_parse.proofs.expression_reader.call_level.Goals as goal

pub returns-in-Some-Name-clause-holds : goal.returns-in-Some-Name-clause-holds
returns-in-Some-Name-clause-holds c = λ whole bs le h. let t = c.args.reader.now in let at = c.args.at in let k = c.args.k in
    let s = subst (λ x. IsTokenAt (Some x) t at) c.in-Some-Name.field-0-is c.in-Some-Name.ensures.token in
    c.call_name.ensures.holds whole bs (to_primary whole k bs (drop at t) le (plain_name k 9 s.0 (drop at t) (drop (at + 1) t) s.1) h)

pub returns-in-Some-Number-clause-holds : goal.returns-in-Some-Number-clause-holds
returns-in-Some-Number-clause-holds c = λ whole bs le h. let t = c.args.reader.now in let at = c.args.at in let k = c.args.k in let n = c.in-Some-Number.number in
    let s = subst (λ x. IsTokenAt (Some x) t at) c.in-Some-Number.field-0-is c.in-Some-Number.ensures.token in
    c.leaf.ensures.holds whole bs
    (moves.part_found whole bs (tail k) (drop at t) (number n ∷ drop (at + 1) t) (Some (literal n, drop (at + 1) t)) s
    (to_primary whole k bs (drop at t) le (plain_number k 9 n (drop at t) (drop (at + 1) t) s) h) (λ g. refl))
    (let w = c.in-Some-Number.ensures.inside.0 in omega arith)

pub returns-in-None-clause-holds : goal.returns-in-None-clause-holds
returns-in-None-clause-holds c = λ whole bs le h. let t = c.args.reader.now in let at = c.args.at in let k = c.args.k in let s = c.in-None.ensures.token in
    moves.part_none whole bs (tail k) (drop at t) [] s (to_primary whole k bs (drop at t) le (plain_end k 9 (drop at t) s) h) (λ g. refl)
