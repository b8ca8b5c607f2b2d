use Rattle.std.proofs.Common.{◌+◌, arith}
use Rattle.ev_kernel.proofs.Lists.{one_more_number}
use Rattle.cases_kernel.proofs.follows.numbers.Goals as goal

pub loop-i-preserved : goal.loop-i-preserved
loop-i-preserved c =
    one_more_number c.loop-i.numbers c.push.new.self (c.loop-i.i + 1) c.args.count c.loop-i.invariant c.in_ok-push.ensures.ok (omega arith) (omega (arith, c.loop-i-test.true))
