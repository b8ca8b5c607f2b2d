use Rattle.ev_congruence.proofs.Appending.{extended_derivation}
use Rattle.cases_congruence.proofs.equations.exchanged.Goals as goal

pub symmetry-requires-clause-derivation : goal.symmetry-requires-clause-derivation
symmetry-requires-clause-derivation c = extended_derivation c.args.env.now c.args.lines.now c.premise.new.lines c.requires c.premise.ensures.extends
