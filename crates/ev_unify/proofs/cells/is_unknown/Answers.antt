use Rattle.std.proofs.Common.{sym}
use Rattle.ev_unify.proofs.Parts.{known_by}
use Rattle.ev_unify.proofs.cells.is_unknown.Goals as goal

pub returns-in_default : goal.returns-in_default
returns-in_default c = sym (known_by c.args.pat.now c.in_default.not-Unknown)
