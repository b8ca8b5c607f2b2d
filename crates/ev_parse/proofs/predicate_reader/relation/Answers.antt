use Rattle.std.proofs.Common.{[], ◌∷◌, ◌++◌, refl, arith}
use Rattle.ev_parse.specs.inner.Frames.{stage_tail, related_behind}
use Rattle.ev_parse.proofs.predicate_reader.relation.Goals as goal

pub returns-clause-holds : goal.returns-clause-holds
returns-clause-holds c = λ whole bs le h. (stage_tail c.args.stage ++ related_behind ∷ [], refl, (h, le, omega arith))
