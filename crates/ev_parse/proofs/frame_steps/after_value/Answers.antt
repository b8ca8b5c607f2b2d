use Rattle.std.proofs.Common.{[], drop, refl, subst}
use Rattle.std.specs.Prelude.{Some}
use Rattle.ev_syntax.proofs.Resumes.{found_inside}
use Rattle.ev_syntax.specs.Raw.{lambda}
use Rattle.ev_parse.specs.inner.Frames.{lambda_value_behind}
use Rattle.ev_parse.proofs.OperandMoves as moves
use Rattle.ev_parse.proofs.OperandMoves.{FoundBy}
use Rattle.ev_parse.proofs.frame_steps.after_value.Goals as goal

pub returns-clause-holds : goal.returns-clause-holds
returns-clause-holds c = λ whole bs cs r f p h le. let t = c.args.source.now.reader.now in let at = c.args.at in (
  lambda f.0 f.1 r,
  c.in_ok-piece.ensures f.0 f.1 r f.2 f.3 p,
  moves.bare_found whole bs (lambda f.0 f.1 r) (drop at t)
      (found_inside whole bs [] (lambda_value_behind f.0 f.1) r (drop at t) (Some (lambda f.0 f.1 r, drop at t)) (subst (λ xs. FoundBy whole bs xs r (drop at t)) f.4 h) (λ n g. refl)),
  le,
)
