use Rattle.std.proofs.Common.{drop, subst}
use Rattle.ev_syntax.proofs.Resumes.{moves_inside}
use Rattle.ev_syntax.specs.Raw.{binary}
use Rattle.ev_parse.specs.inner.Frames.{stage_rest, connective_behind, chain_behind}
use Rattle.ev_parse.proofs.OperandMoves.{FoundBy}
use Rattle.ev_parse.proofs.frame_steps.after_connective.Goals as goal

pub returns-clause-holds : goal.returns-clause-holds
returns-clause-holds c = λ whole bs cs r f p h le. let t = c.args.source.now.reader.now in let at = c.args.at in
    (binary c.args.mark f.0 r, c.in_ok-piece.ensures f.0 r f.1 p, moves_inside whole bs (stage_rest c.args.stage) (connective_behind c.args.mark f.0) (chain_behind c.args.mark) r (binary c.args.mark f.0 r) (drop at t) (drop at t) (subst (λ xs. FoundBy whole bs xs r (drop at t)) f.2 h) (λ z s. s), le)
