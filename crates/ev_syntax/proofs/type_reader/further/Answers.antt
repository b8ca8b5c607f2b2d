use Rattle.std.proofs.Common.{[], ◌∷◌, ◌++◌, ◌+◌, drop, refl, sym, ◌∙◌, arith}
use Rattle.ev_syntax.specs.Marks.{comma}
use Rattle.ev_syntax.specs.inner.TypeFrames.{type_tail, types_behind}
use Rattle.ev_syntax.proofs.TypeMoves.{begins_at}
use Rattle.ev_syntax.proofs.TypeMoves as moves
use Rattle.ev_syntax.proofs.type_reader.further.Goals as goal

pub returns-then-is_mark-clause-holds : goal.returns-then-is_mark-clause-holds
returns-then-is_mark-clause-holds c = λ whole bs rs r p h.
    let t = c.args.reader.now in let at = c.args.at in (
      type_tail c.args.goal ++ types_behind c.args.name (rs ++ r ∷ []) ∷ [],
      (rs ++ r ∷ [], p, refl),
      (
        moves.further whole bs c.args.goal c.args.name rs r (drop at t) (drop (at + 1) t) (begins_at comma t at (sym c.is_mark.ensures.is ∙ c.if-is_mark.true)) h,
        let w = (c.is_mark.ensures.inside c.if-is_mark.true).0 in omega arith,
      ),
    )

pub returns-clause-holds : goal.returns-clause-holds
returns-clause-holds c = λ whole bs rs r p h.
    c.close.ensures.holds whole bs _ (c.in_ok-piece.ensures (rs ++ r ∷ []) p)
    (moves.last whole bs c.args.goal c.args.name rs r (drop c.args.at c.args.reader.now) (sym c.is_mark.ensures.is ∙ c.if-is_mark.false) h)
