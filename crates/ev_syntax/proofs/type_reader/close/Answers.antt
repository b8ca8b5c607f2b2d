use Rattle.std.proofs.Common.{drop, subst, sym, ◌∙◌, arith}
use Rattle.std.specs.Prelude.{Some}
use Rattle.ev_syntax.specs.Marks.{close_paren}
use Rattle.ev_syntax.proofs.TypeMoves.{closes, expect_no}
use Rattle.ev_syntax.proofs.TypeMoves as moves
use Rattle.ev_syntax.proofs.type_reader.close.Goals as goal

pub returns-then-is_mark-clause-holds : goal.returns-then-is_mark-clause-holds
returns-then-is_mark-clause-holds c = λ whole bs r p h.
    let t = c.args.reader.now in let at = c.args.at in (
      r,
      p,
      subst (moves.Answered whole bs c.args.goal) (closes close_paren t at (λ rest. Some (r, rest)) (sym c.is_mark.ensures.is ∙ c.if-is_mark.true)) h,
      let w = (c.is_mark.ensures.inside c.if-is_mark.true).0 in omega arith,
    )

pub returns-clause-holds : goal.returns-clause-holds
returns-clause-holds c = λ whole bs r p h.
    moves.nothing whole bs c.args.goal (subst (moves.Answered whole bs c.args.goal) (expect_no close_paren (drop c.args.at c.args.reader.now) (λ rest. Some (r, rest)) (sym c.is_mark.ensures.is ∙ c.if-is_mark.false)) h)
