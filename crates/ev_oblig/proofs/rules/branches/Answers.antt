use Rattle.std.proofs.Common.{rules, ◌+◌, drop}
use Rattle.ev_typing.proofs.Names.{drop_at}
use Rattle.ev_oblig.specs.Obligations.{branch_obligations}
use Rattle.ev_oblig.proofs.Listing.{part_small}
use Rattle.ev_oblig.proofs.rules.branches.Goals as goal

pub returns-in_err-add_branch-clause-large : goal.returns-in_err-add_branch-clause-large
returns-in_err-add_branch-clause-large c =
    λ e small.
    c.in_err-add_branch.ensures.large (search rules)
    (part_small (branch_obligations c.args.env.now c.args.sides.now.rule.now) (drop c.loop-i.i c.args.sides.now.rule.now.branches) (drop (c.loop-i.i + 1) c.args.sides.now.rule.now.branches) c.loop-i.i
    c.index-branches-i.result c.loop-i.all _
    (drop_at c.args.sides.now.rule.now.branches c.loop-i.i c.index-branches-i.result (search rules) (search rules)) c.loop-i.invariant small)
