use Rattle.std.proofs.Common.{[], ◌∷◌, ◌++◌, ◌+◌, drop, refl, arith}
use Rattle.ev_parse.specs.inner.Frames.{between, minus_behind}
use Rattle.ev_parse.proofs.LevelMoves as moves
use Rattle.ev_parse.proofs.expression_reader.call_minus.Goals as goal

pub returns-then-k-le7-clause-holds : goal.returns-then-k-le7-clause-holds
returns-then-k-le7-clause-holds c = λ whole bs le h. let t = c.args.reader.now in let at = c.args.at in (
  between c.args.k 7 ++ minus_behind ∷ [],
  refl,
  (moves.minus_part whole bs c.args.k (drop at t) (drop (at + 1) t) c.if-k-le7.true c.requires.token h, (let w = c.requires.inside.0 in omega arith), omega arith),
)

pub returns-clause-holds : goal.returns-clause-holds
returns-clause-holds c = λ whole bs le h. let t = c.args.reader.now in let at = c.args.at in let w = c.if-k-le7.false in
    moves.no_minus_part whole bs c.args.k (drop at t) (drop (at + 1) t) le (omega arith) c.requires.token h
