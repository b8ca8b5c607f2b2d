use Rattle.std.proofs.Common.{arith}
use Rattle.ev_infer.proofs.SolvingSteps.{scan_both, second_rank, rest_step, rest_size}
use Rattle.ev_infer.proofs.solving.+look.Goals as goal

pub look_at-returns-in-Visited : goal.look_at-returns-in-Visited
look_at-returns-in-Visited t c =
    scan_both c.args.pat.now c.in-Prod.a c.in-Prod.b c.get-in-Prod.result.now c.get-in-Visited.result.now c.args.marks.now c.look_at-in-Visited.result
    c.in-Prod.is c.get-in-Prod.ensures c.get-in-Visited.ensures c.in-Visited.ensures c.look_at-in-Visited.ensures

pub look_at-look_at-requires-in-Visited : goal.look_at-look_at-requires-in-Visited
look_at-look_at-requires-in-Visited t c = (let r = second_rank c.args.pat.now c.in-Prod.a c.in-Prod.b c.get-in-Visited.result.now c.in-Prod.is c.get-in-Visited.ensures in let d = c.decreases in omega (arith, r, d), tt)

pub look_at_all-loop-left-preserved : goal.look_at_all-loop-left-preserved
look_at_all-loop-left-preserved t c = (
  rest_step c.args.list.now c.loop-left.left.now c.in-More.a c.in-More.rest c.get.result.now c.get-left.result.now c.args.marks.now c.look_at.result c.in-More.is c.get.ensures c.get-left.ensures c.look_at.ensures c.in-Visited.is c.loop-left.invariant.0,
  rest_size c.args.list.now c.loop-left.left.now c.in-More.rest c.get-left.result.now c.in-More.a c.in-More.is c.get-left.ensures c.loop-left.invariant.1,
)
