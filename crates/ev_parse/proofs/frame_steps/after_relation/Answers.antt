use Rattle.std.proofs.Common.{drop, refl, subst}
use Rattle.std.specs.Prelude.{Some}
use Rattle.ev_syntax.proofs.Resumes.{found_inside}
use Rattle.ev_syntax.specs.Raw.{binary}
use Rattle.ev_parse.specs.inner.Frames.{stage_tail, binary_behind}
use Rattle.ev_parse.proofs.OperandMoves.{FoundBy}
use Rattle.ev_parse.proofs.frame_steps.after_relation.Goals as goal

pub returns-clause-holds : goal.returns-clause-holds
returns-clause-holds c = λ whole bs cs r f p h le. let t = c.args.source.now.reader.now in let at = c.args.at in
    (binary c.args.mark f.0 r, c.in_ok-piece.ensures f.0 r f.1 p, found_inside whole bs (stage_tail c.args.stage) (binary_behind c.args.mark f.0) r (drop at t) (Some (binary c.args.mark f.0 r, drop at t)) (subst (λ xs. FoundBy whole bs xs r (drop at t)) f.2 h) (λ n g. refl), le)
