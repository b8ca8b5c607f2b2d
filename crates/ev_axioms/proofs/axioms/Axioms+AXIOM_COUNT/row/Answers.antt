use Rattle.std.proofs.Common.{◌∙◌}
use Rattle.ev_axioms.proofs.Kept.{kept_row}
use Rattle.ev_axioms.proofs.axioms.Axioms+AXIOM_COUNT.row.Goals as goal

pub returns : goal.returns
returns c = c.get.ensures ∙ kept_row c.self.inside.rows c.self.invariant c.args.k c.if-k-eq0.false
