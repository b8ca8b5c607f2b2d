use Rattle.std.proofs.Common.{arith}
use Rattle.ev_print.proofs.terms.print.Goals as goal

pub push_term-requires : goal.push_term-requires
push_term-requires c = record { within = omega (arith, c.from.ensures) }
