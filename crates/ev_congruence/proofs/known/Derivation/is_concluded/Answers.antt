use Rattle.std.proofs.Common.{rules}
use Rattle.ev_congruence.proofs.Appending.{concluded_here}
use Rattle.ev_congruence.proofs.known.Derivation.is_concluded.Goals as goal

pub returns-in-Some : goal.returns-in-Some
returns-in-Some c =
    λ t. concluded_here c.args.self.now c.args.place c.in-Some.line.now c.args.sequent.now (search (rules, c.in-Some.ensures, c.self.view_is)) (c.same.ensures.0 t)
