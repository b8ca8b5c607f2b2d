use Rattle.std.proofs.Common.{drop, refl, subst}
use Rattle.ev_syntax.proofs.Resumes.{found_inside}
use Rattle.ev_parse.specs.inner.Frames.{tail, set_behind}
use Rattle.ev_parse.proofs.OperandMoves.{FoundBy}
use Rattle.ev_parse.proofs.frame_steps.after_set.Goals as goal

pub returns-clause-holds : goal.returns-clause-holds
returns-clause-holds c = λ whole bs cs r f p h le. let t = c.args.source.now.reader.now in let at = c.args.at in
    c.close.ensures.holds whole bs _ (c.in_ok-piece.ensures f.0 r f.1 p) (found_inside whole bs (tail c.args.k) (set_behind f.0) r (drop at t) _ (subst (λ xs. FoundBy whole bs xs r (drop at t)) f.2 h) (λ n g. refl))
