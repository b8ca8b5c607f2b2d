use Rattle.std.proofs.Common.{drop, refl, subst}
use Rattle.std.specs.Prelude.{Some}
use Rattle.ev_syntax.proofs.Resumes.{found_inside}
use Rattle.ev_syntax.specs.Marks.{minus_sign}
use Rattle.ev_syntax.specs.Raw.{unary}
use Rattle.ev_parse.specs.inner.Frames.{between, minus_behind}
use Rattle.ev_parse.proofs.OperandMoves.{FoundBy}
use Rattle.ev_parse.proofs.frame_steps.after_minus.Goals as goal

pub returns-clause-holds : goal.returns-clause-holds
returns-clause-holds c = λ whole bs cs r f p h le. let t = c.args.source.now.reader.now in let at = c.args.at in
    (unary minus_sign r, c.in_ok-piece.ensures r p, found_inside whole bs (between c.args.k 7) minus_behind r (drop at t) (Some (unary minus_sign r, drop at t)) (subst (λ xs. FoundBy whole bs xs r (drop at t)) f h) (λ n g. refl), le)
