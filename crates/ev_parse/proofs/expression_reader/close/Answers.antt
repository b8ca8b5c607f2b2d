use Rattle.std.proofs.Common.{drop, subst, sym, ◌∙◌, arith}
use Rattle.std.specs.Prelude.{Some}
use Rattle.ev_parse.specs.inner.Frames.{tail}
use Rattle.ev_syntax.proofs.Resumes.{nothing_inside}
use Rattle.ev_syntax.proofs.TypeMoves.{closes, expect_no}
use Rattle.ev_parse.proofs.LevelMoves as moves
use Rattle.ev_parse.proofs.expression_reader.close.Goals as goal

pub returns-then-is_mark-clause-holds : goal.returns-then-is_mark-clause-holds
returns-then-is_mark-clause-holds c = λ whole bs r p h. let t = c.args.reader.now in let at = c.args.at in (
  r,
  p,
  subst (moves.Below whole bs (tail c.args.k)) (closes c.args.mark t at (λ rest. Some (r, rest)) (sym c.is_mark.ensures.is ∙ c.if-is_mark.true)) h,
  let w = (c.is_mark.ensures.inside c.if-is_mark.true).0 in omega arith,
)

pub returns-clause-holds : goal.returns-clause-holds
returns-clause-holds c = λ whole bs r p h. let t = c.args.reader.now in let at = c.args.at in
    nothing_inside whole bs (tail c.args.k) (subst (moves.Below whole bs (tail c.args.k)) (expect_no c.args.mark (drop at t) (λ rest. Some (r, rest)) (sym c.is_mark.ensures.is ∙ c.if-is_mark.false)) h)
