use Rattle.std.proofs.Common.{◌+◌, drop, subst, sym, ◌∙◌, arith}
use Rattle.ev_syntax.specs.Marks.{close_paren}
use Rattle.ev_syntax.specs.Raw.{apply}
use Rattle.ev_syntax.proofs.TypeMoves.{begins_at}
use Rattle.ev_parse.proofs.OperandMoves as moves
use Rattle.ev_parse.proofs.OperandMoves.{FoundBy}
use Rattle.ev_parse.proofs.frame_steps.after_argument.Goals as goal

pub returns-then-not-is_mark-clause-holds : goal.returns-then-not-is_mark-clause-holds
returns-then-not-is_mark-clause-holds c = λ whole bs cs r f p h le. let t = c.args.source.now.reader.now in let at = c.args.at in
    moves.argument_open whole bs c.args.k f.0 r (drop at t) (sym c.is_mark.ensures.is ∙ c.if-not-is_mark.true) (subst (λ xs. FoundBy whole bs xs r (drop at t)) f.2 h)

pub returns-clause-holds : goal.returns-clause-holds
returns-clause-holds c = λ whole bs cs r f p h le. let t = c.args.source.now.reader.now in let at = c.args.at in (
  apply f.0 r,
  c.in_ok-piece.ensures f.0 r f.1 p,
  moves.argument_ends whole bs c.args.k f.0 r (drop at t) (drop (at + 1) t) (begins_at close_paren t at (sym c.is_mark.ensures.is ∙ c.if-not-is_mark.false)) (subst (λ xs. FoundBy whole bs xs r (drop at t)) f.2 h),
  let w = (c.is_mark.ensures.inside c.if-not-is_mark.false).0 in omega arith,
)
