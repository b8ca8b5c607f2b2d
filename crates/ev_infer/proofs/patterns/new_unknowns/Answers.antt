use Rattle.std.proofs.Common.{arith}
use Rattle.ev_infer.proofs.PatternSteps.{counted_end}
use Rattle.ev_infer.proofs.patterns.new_unknowns.Goals as goal

pub returns : goal.returns
returns c =
    counted_end c.loop-unknown.types.items c.args.next c.loop-unknown.unknown c.args.count c.in-Some.end (omega arith) c.loop-unknown.invariant.0 (omega arith) c.loop-unknown.invariant.1
