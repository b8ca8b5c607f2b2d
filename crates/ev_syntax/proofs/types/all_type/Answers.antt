use Rattle.std.proofs.Common.{subst}
use Rattle.ev_syntax.specs.inner.TypeFrames.{TypeAnswer}
use Rattle.ev_syntax.proofs.TypeAnswers.{no_type}
use Rattle.ev_syntax.proofs.types.all_type.Goals as goal

pub returns-in-None : goal.returns-in-None
returns-in-None c = no_type c.args.reader.now (subst (TypeAnswer c.args.limit c.args.reader.now 0) c.in-None.is c.in_ok-piece.ensures)
