use Rattle.std.proofs.Common.{◌+◌, drop, subst}
use Rattle.std.specs.Prelude.{Some, None}
use Rattle.ev_syntax.specs.Raw.{of_type}
use Rattle.ev_syntax.specs.inner.TypeFrames.{TypeAnswer}
use Rattle.ev_parse.proofs.OperandMoves as moves
use Rattle.ev_parse.proofs.operand_reader.typed.Goals as goal

pub returns-in_ok-piece-in-Some-clause-holds : goal.returns-in_ok-piece-in-Some-clause-holds
returns-in_ok-piece-in-Some-clause-holds c = λ whole bs r p h le. let t = c.args.source.now.reader.now in let at = c.args.at in
    let a = subst (TypeAnswer c.args.source.now.limit t (at + 1)) c.in-Some.is c.in_ok-written.ensures in
    (of_type r a.0, c.in_ok-piece-in-Some.ensures r a.0 p a.1, moves.typed_part whole bs r (drop at t) (drop (at + 1) t) (Some (a.0, drop c.in-Some.to t)) c.requires.token a.2 h, a.3)

pub returns-in-None-clause-holds : goal.returns-in-None-clause-holds
returns-in-None-clause-holds c = λ whole bs r p h le. let t = c.args.source.now.reader.now in let at = c.args.at in
    moves.typed_part whole bs r (drop at t) (drop (at + 1) t) None c.requires.token (subst (TypeAnswer c.args.source.now.limit t (at + 1)) c.in-None.is c.in_ok-written.ensures) h
