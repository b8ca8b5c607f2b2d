use Rattle.std.proofs.Common.{[], ◌∷◌, ◌++◌, ◌+◌, drop, refl, sym, ◌∙◌, arith}
use Rattle.ev_syntax.specs.Marks.{inverse_sign, open_paren, open_bracket}
use Rattle.ev_syntax.specs.Raw.{inverse}
use Rattle.ev_parse.specs.inner.Frames.{between, argument_behind, image_behind}
use Rattle.ev_syntax.proofs.TypeMoves.{begins_at}
use Rattle.ev_parse.proofs.OperandMoves as moves
use Rattle.ev_parse.proofs.operand_reader.primary.Goals as goal

pub returns-then-is_mark-clause-holds : goal.returns-then-is_mark-clause-holds
returns-then-is_mark-clause-holds c = λ whole bs r p h le. let t = c.args.source.now.reader.now in let at = c.args.at in (
  inverse r,
  c.in_ok-piece.ensures r p,
  moves.inverted whole bs c.args.k r (drop at t) (drop (at + 1) t) (begins_at inverse_sign t at (sym c.is_mark.ensures.is ∙ c.if-is_mark.true)) h,
  let w = (c.is_mark.ensures.inside c.if-is_mark.true).0 in omega arith,
)

pub returns-then-is_mark-2-clause-holds : goal.returns-then-is_mark-2-clause-holds
returns-then-is_mark-2-clause-holds c = λ whole bs r p h le. let t = c.args.source.now.reader.now in let at = c.args.at in (
  between c.args.k 9 ++ argument_behind r ∷ [],
  (r, p, refl),
  (
    moves.argued whole bs c.args.k r (drop at t) (drop (at + 1) t) (begins_at open_paren t at (sym c.is_mark-2.ensures.is ∙ c.if-is_mark-2.true)) h,
    (let w = (c.is_mark-2.ensures.inside c.if-is_mark-2.true).0 in omega arith),
    omega arith,
  ),
)

pub returns-then-is_mark-3-clause-holds : goal.returns-then-is_mark-3-clause-holds
returns-then-is_mark-3-clause-holds c = λ whole bs r p h le. let t = c.args.source.now.reader.now in let at = c.args.at in (
  between c.args.k 9 ++ image_behind r ∷ [],
  (r, p, refl),
  (
    moves.imaged whole bs c.args.k r (drop at t) (drop (at + 1) t) (begins_at open_bracket t at (sym c.is_mark-3.ensures.is ∙ c.if-is_mark-3.true)) h,
    (let w = (c.is_mark-3.ensures.inside c.if-is_mark-3.true).0 in omega arith),
    omega arith,
  ),
)

pub returns-clause-holds : goal.returns-clause-holds
returns-clause-holds c = λ whole bs r p h le. let t = c.args.source.now.reader.now in let at = c.args.at in
    (r, p, moves.no_post whole bs c.args.k r (drop at t) (sym c.is_mark.ensures.is ∙ c.if-is_mark.false) (sym c.is_mark-2.ensures.is ∙ c.if-is_mark-2.false) (sym c.is_mark-3.ensures.is ∙ c.if-is_mark-3.false) h, le)
