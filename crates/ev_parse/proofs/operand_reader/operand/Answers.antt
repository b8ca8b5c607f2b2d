use Rattle.std.proofs.Common.{drop, ap, subst}
use Rattle.std.specs.Prelude.{Some}
use Rattle.ev_syntax.specs.Marks.{oftype_word}
use Rattle.ev_syntax.specs.inner.TokenAt.{IsTokenAt}
use Rattle.ev_syntax.specs.inner.Lookahead.{first_operator}
use Rattle.ev_syntax.specs.inner.TypeParser.{begins}
use Rattle.ev_parse.proofs.OperandMoves as moves
use Rattle.ev_parse.proofs.operand_reader.operand.Goals as goal

pub returns-in-Some-Name-clause-holds : goal.returns-in-Some-Name-clause-holds
returns-in-Some-Name-clause-holds c = λ whole bs r p h le. let t = c.args.source.now.reader.now in let at = c.args.at in
    let s = subst (λ x. IsTokenAt (Some x) t at) c.in-Some-Name.field-0-is c.in-Some-Name.ensures.token in
    (r, p, moves.no_mark whole bs c.args.j c.args.k r (drop at t) (ap first_operator s.1) (ap (begins oftype_word) s.1) h, le)

pub returns-in-Some-Number-clause-holds : goal.returns-in-Some-Number-clause-holds
returns-in-Some-Number-clause-holds c = λ whole bs r p h le. let t = c.args.source.now.reader.now in let at = c.args.at in
    let s = subst (λ x. IsTokenAt (Some x) t at) c.in-Some-Number.field-0-is c.in-Some-Number.ensures.token in
    (r, p, moves.no_mark whole bs c.args.j c.args.k r (drop at t) (ap first_operator s) (ap (begins oftype_word) s) h, le)

pub returns-in-None-clause-holds : goal.returns-in-None-clause-holds
returns-in-None-clause-holds c = λ whole bs r p h le. let t = c.args.source.now.reader.now in let at = c.args.at in let s = c.in-None.ensures.token in
    (r, p, moves.no_mark whole bs c.args.j c.args.k r (drop at t) (ap first_operator s) (ap (begins oftype_word) s) h, le)
