use Rattle.std.proofs.Common.{[], ◌∷◌, ◌++◌, ◌+◌, drop, refl, sym, ◌∙◌, arith}
use Rattle.ev_parse.specs.inner.Frames.{stage_rest, connective_behind}
use Rattle.ev_syntax.proofs.TypeMoves.{begins_at}
use Rattle.ev_parse.proofs.PredicateMoves as moves
use Rattle.ev_parse.proofs.predicate_reader.chain.Goals as goal

pub returns-then-is_mark-clause-holds : goal.returns-then-is_mark-clause-holds
returns-then-is_mark-clause-holds c = λ whole bs r p h le. let t = c.args.reader.now in let at = c.args.at in (
  stage_rest c.args.stage ++ connective_behind c.args.mark r ∷ [],
  (r, p, refl),
  (
    moves.another whole bs c.args.stage c.args.mark r (drop at t) (drop (at + 1) t) (begins_at c.args.mark t at (sym c.is_mark.ensures.is ∙ c.if-is_mark.true)) h,
    let w = (c.is_mark.ensures.inside c.if-is_mark.true).0 in omega arith,
  ),
)

pub returns-clause-holds : goal.returns-clause-holds
returns-clause-holds c = λ whole bs r p h le. let t = c.args.reader.now in let at = c.args.at in
    (r, p, moves.no_other whole bs c.args.stage c.args.mark r (drop at t) (sym c.is_mark.ensures.is ∙ c.if-is_mark.false) h, le)
