use Rattle.std.proofs.Common.{[], ◌∷◌, ◌++◌, refl, arith}
use Rattle.ev_parse.specs.inner.Frames.{tail, members_behind}
use Rattle.ev_parse.proofs.expression_reader.call_members.Goals as goal

pub returns-clause-holds : goal.returns-clause-holds
returns-clause-holds c = λ whole bs h. (tail c.args.k ++ members_behind [] ∷ [], ([], c.no_members.ensures, refl), (h, (let w = c.requires.inside.0 in omega arith), omega arith))
