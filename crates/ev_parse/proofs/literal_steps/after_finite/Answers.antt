use Rattle.std.proofs.Common.{◌+◌, drop, subst, sym, ◌∙◌, arith}
use Rattle.std.specs.Prelude.{Some, None}
use Rattle.ev_syntax.proofs.Resumes.{found_inside, nothing_inside}
use Rattle.ev_syntax.specs.Marks.{close_paren, finite_word}
use Rattle.ev_syntax.specs.Raw.{around}
use Rattle.ev_parse.specs.inner.Frames.{stage_tail, around_behind}
use Rattle.ev_syntax.proofs.TypeMoves.{closes, expect_no}
use Rattle.ev_parse.proofs.OperandMoves.{FoundBy}
use Rattle.ev_parse.proofs.literal_steps.after_finite.Goals as goal

pub returns-then-not-is_mark-clause-holds : goal.returns-then-not-is_mark-clause-holds
returns-then-not-is_mark-clause-holds c = λ whole bs cs r f p h le. let t = c.args.source.now.reader.now in let at = c.args.at in
    nothing_inside whole bs (stage_tail c.args.stage) (found_inside whole bs (stage_tail c.args.stage) (around_behind finite_word) r (drop at t) None (subst (λ xs. FoundBy whole bs xs r (drop at t)) f h) (λ n g. expect_no close_paren (drop at t) _ (sym c.is_mark.ensures.is ∙ c.if-not-is_mark.true)))

pub returns-clause-holds : goal.returns-clause-holds
returns-clause-holds c = λ whole bs cs r f p h le. let t = c.args.source.now.reader.now in let at = c.args.at in (
  around finite_word r,
  c.in_ok-piece.ensures r p,
  found_inside whole bs (stage_tail c.args.stage) (around_behind finite_word) r (drop at t) (Some (around finite_word r, drop (at + 1) t)) (subst (λ xs. FoundBy whole bs xs r (drop at t)) f h)
      (λ n g. closes close_paren t at (λ rest. Some (around finite_word r, rest)) (sym c.is_mark.ensures.is ∙ c.if-not-is_mark.false)),
  let w = (c.is_mark.ensures.inside c.if-not-is_mark.false).0 in omega arith,
)
