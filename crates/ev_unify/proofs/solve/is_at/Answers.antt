use Rattle.std.proofs.Common.{sym}
use Rattle.ev_unify.proofs.Parts.{known_by}
use Rattle.ev_unify.proofs.Spread.{not_at}
use Rattle.ev_unify.proofs.solve.is_at.Goals as goal

pub returns-in_default : goal.returns-in_default
returns-in_default c = sym (not_at c.args.unknown c.args.pat.now (known_by c.args.pat.now c.in_default.not-Unknown))
