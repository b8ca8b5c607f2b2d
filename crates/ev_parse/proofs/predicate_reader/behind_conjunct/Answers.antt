use Rattle.std.proofs.Common.{[], ◌∷◌, ◌+◌, drop, refl, sym, ◌∙◌, arith}
use Rattle.ev_syntax.specs.Marks.{implies_sign, iff_sign}
use Rattle.ev_parse.specs.inner.Frames.{binary_behind}
use Rattle.ev_syntax.proofs.TypeMoves.{begins_at}
use Rattle.ev_parse.proofs.PredicateMoves as moves
use Rattle.ev_parse.proofs.predicate_reader.behind_conjunct.Goals as goal

pub returns-then-is_mark-clause-holds : goal.returns-then-is_mark-clause-holds
returns-then-is_mark-clause-holds c = λ whole bs r p h le. let t = c.args.reader.now in let at = c.args.at in (
  binary_behind implies_sign r ∷ [],
  (r, p, refl),
  (
    moves.implication whole bs implies_sign r (drop at t) (drop (at + 1) t) (begins_at implies_sign t at (sym c.is_mark.ensures.is ∙ c.if-is_mark.true)) (λ g. refl) h,
    let w = (c.is_mark.ensures.inside c.if-is_mark.true).0 in omega arith,
  ),
)

pub returns-then-is_mark-2-clause-holds : goal.returns-then-is_mark-2-clause-holds
returns-then-is_mark-2-clause-holds c = λ whole bs r p h le. let t = c.args.reader.now in let at = c.args.at in (
  binary_behind iff_sign r ∷ [],
  (r, p, refl),
  (
    moves.implication whole bs iff_sign r (drop at t) (drop (at + 1) t) (begins_at iff_sign t at (sym c.is_mark-2.ensures.is ∙ c.if-is_mark-2.true)) (λ g. refl) h,
    let w = (c.is_mark-2.ensures.inside c.if-is_mark-2.true).0 in omega arith,
  ),
)

pub returns-clause-holds : goal.returns-clause-holds
returns-clause-holds c = λ whole bs r p h le. let t = c.args.reader.now in let at = c.args.at in
    (r, p, moves.no_implication whole bs r (drop at t) (sym c.is_mark.ensures.is ∙ c.if-is_mark.false) (sym c.is_mark-2.ensures.is ∙ c.if-is_mark-2.false) h, le)
