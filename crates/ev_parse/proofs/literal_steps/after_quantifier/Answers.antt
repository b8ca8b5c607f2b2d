use Rattle.std.proofs.Common.{drop, ap, subst, sym, ◌∙◌}
use Rattle.std.specs.Prelude.{Some, None}
use Rattle.ev_syntax.proofs.Resumes.{found_inside, nothing_inside}
use Rattle.std.specs.Prelude.{if◌then◌else◌}
use Rattle.ev_syntax.specs.Raw.{quantified}
use Rattle.ev_parse.specs.inner.Frames.{stage_tail, quantified_behind}
use Rattle.ev_parse.proofs.OperandMoves.{FoundBy}
use Rattle.ev_parse.proofs.literal_steps.after_quantifier.Goals as goal

pub returns-then-connects-clause-holds : goal.returns-then-connects-clause-holds
returns-then-connects-clause-holds c = λ whole bs cs r f p h le. let t = c.args.source.now.reader.now in let at = c.args.at in
    nothing_inside whole bs (stage_tail c.args.stage) (found_inside whole bs (stage_tail c.args.stage) (quantified_behind c.args.mark f.0) r (drop at t) None (subst (λ xs. FoundBy whole bs xs r (drop at t)) f.2 h)
    (λ n g. ap (λ b. if b then None else Some (quantified c.args.mark f.0 r, drop at t)) (sym c.connects.ensures ∙ c.if-connects.true)))

pub returns-clause-holds : goal.returns-clause-holds
returns-clause-holds c = λ whole bs cs r f p h le. let t = c.args.source.now.reader.now in let at = c.args.at in (
  quantified c.args.mark f.0 r,
  c.in_ok-piece.ensures f.0 r f.1 p,
  found_inside whole bs (stage_tail c.args.stage) (quantified_behind c.args.mark f.0) r (drop at t) (Some (quantified c.args.mark f.0 r, drop at t)) (subst (λ xs. FoundBy whole bs xs r (drop at t)) f.2 h)
      (λ n g. rw (sym c.connects.ensures ∙ c.if-connects.false)),
  le,
)
