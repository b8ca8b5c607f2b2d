use Rattle.std.proofs.Common.{arith}
use Rattle.ev_script.proofs.WordLaws.{many_words}
use Rattle.ev_script.proofs.heads.head_of_words.Goals as goal

pub returns-in-len3-up : goal.returns-in-len3-up
returns-in-len3-up c = many_words c.args.words.now (omega arith)
