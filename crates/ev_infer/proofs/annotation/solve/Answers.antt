use Rattle.ev_infer.proofs.Below.{solution_ordered}
use Rattle.ev_infer.proofs.annotation.solve.Goals as goal

pub solve_all-requires : goal.solve_all-requires
solve_all-requires c =
    solution_ordered c.in-Ok.solution c.as_slice.result.now c.args.equations.now.pairs c.args.equations.now.next c.in-Ok-try_from.count c.in-Ok.ensures.unifier c.in-Ok.ensures.solvable c.requires c.as_slice.ensures c.in-Ok-try_from.ensures.1
