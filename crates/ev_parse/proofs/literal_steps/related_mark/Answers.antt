use Rattle.std.proofs.Common.{[], ◌∷◌, ◌++◌, ◌+◌, drop, refl, sym, ◌∙◌, arith}
use Rattle.ev_parse.specs.inner.Frames.{stage_tail, binary_behind}
use Rattle.ev_parse.proofs.RelationMoves as moves
use Rattle.ev_parse.proofs.literal_steps.related_mark.Goals as goal

pub returns-then-is_relation-clause-holds : goal.returns-then-is_relation-clause-holds
returns-then-is_relation-clause-holds c = λ whole bs r p h le. let t = c.args.source.now.reader.now in let at = c.args.at in (
  stage_tail c.args.stage ++ binary_behind c.args.mark r ∷ [],
  (r, p, refl),
  (
    moves.at_relation whole bs (stage_tail c.args.stage) r c.args.mark (drop at t) (drop (at + 1) t) c.requires.token (sym c.is_relation.ensures ∙ c.if-is_relation.true) h,
    (let w = c.requires.inside.0 in omega arith),
    omega arith,
  ),
)

pub returns-clause-holds : goal.returns-clause-holds
returns-clause-holds c = λ whole bs r p h le. let t = c.args.source.now.reader.now in let at = c.args.at in
    c.named.ensures.holds whole bs r p (moves.at_other whole bs (stage_tail c.args.stage) r c.args.mark (drop at t) (drop (at + 1) t) c.requires.token (sym c.is_relation.ensures ∙ c.if-is_relation.false) h) le
