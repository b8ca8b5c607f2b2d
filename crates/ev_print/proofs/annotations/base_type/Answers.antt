use Rattle.ev_print.proofs.OpenSteps.{no_type}
use Rattle.ev_print.proofs.annotations.base_type.Goals as goal

pub returns : goal.returns
returns c = no_type c.args.row c.if-row-eq-EMPTY.false c.if-row-eq-ID.false c.if-row-eq-PRJ1.false c.if-row-eq-PRJ2.false
