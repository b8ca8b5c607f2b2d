use Rattle.std.proofs.Common.{arith}
use Rattle.ev_rewrite.proofs.LoweredSteps.{not_lowered_var}
use Rattle.ev_rewrite.proofs.lowering.lower_variable.Goals as goal

pub returns-then-from : goal.returns-then-from
returns-then-from c = not_lowered_var c.args.i c.args.from c.args.by (omega arith) (omega arith)
