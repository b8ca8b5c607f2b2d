use Rattle.std.specs.List.{range_with_len}
use Rattle.ev_rules.proofs.Numbering.{range_more}
use Rattle.ev_rules.proofs.params.first_numbers.Goals as goal

pub loop-i-preserved : goal.loop-i-preserved
loop-i-preserved c =
    range_more c.loop-i.i c.args.n c.loop-i.ids c.push.new.self (range_with_len 0 c.args.n) c.loop-i-test.true c.in_ok-push.ensures.ok c.loop-i.invariant
