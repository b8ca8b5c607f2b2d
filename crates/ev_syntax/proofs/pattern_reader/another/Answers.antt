use Rattle.std.proofs.Common.{◌+◌, [], ◌∷◌, drop, sym, ◌∙◌, refl, arith}
use Rattle.ev_syntax.specs.Marks.{maps_to_sign}
use Rattle.ev_syntax.specs.inner.PatternFrames.{pair_behind}
use Rattle.ev_syntax.proofs.TypeMoves.{begins_at}
use Rattle.ev_syntax.proofs.PatternMoves as moves
use Rattle.ev_syntax.proofs.pattern_reader.another.Goals as goal

pub returns-then-is_mark-clause-holds : goal.returns-then-is_mark-clause-holds
returns-then-is_mark-clause-holds c = λ whole bs x p h le. let t = c.args.reader.now in let at = c.args.at in (
  pair_behind x ∷ [],
  (x, p, refl),
  (
    moves.another whole bs x (drop at t) (drop (at + 1) t) (begins_at maps_to_sign t at (sym c.is_mark.ensures.is ∙ c.if-is_mark.true)) h,
    let w = (c.is_mark.ensures.inside c.if-is_mark.true).0 in omega arith,
  ),
)

pub returns-clause-holds : goal.returns-clause-holds
returns-clause-holds c = λ whole bs x p h le.
    (x, p, moves.no_other whole bs x (drop c.args.at c.args.reader.now) (sym c.is_mark.ensures.is ∙ c.if-is_mark.false) h, le)
