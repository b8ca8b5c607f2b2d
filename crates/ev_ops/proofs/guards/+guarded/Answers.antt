use Rattle.std.proofs.Common.{◌+◌, ◌∙◌, ap}
use Rattle.ev_ops.proofs.Guarding.{refused, at_node}
use Rattle.ev_ops.proofs.guards.+guarded.Goals as goal

pub is_guarded-returns-then-not-is_guarded_at : goal.is_guarded-returns-then-not-is_guarded_at
is_guarded-returns-then-not-is_guarded_at t c =
    refused c.args.guard.now.sig.now c.args.guard.now.place c.args.guard.now.own.now c.args.guard.now.types.now c.args.guard.now.con.now c.args.depth c.args.tree.now c.in-Some.sym.now c.in-Some.types.now c.in-Some.children.now
    c.is_guarded_at.result c.in-Some.ensures.found c.if-not-is_guarded_at.true c.is_guarded_at.ensures

pub is_guarded-returns-else-not-is_guarded_at : goal.is_guarded-returns-else-not-is_guarded_at
is_guarded-returns-else-not-is_guarded_at t c =
    at_node c.args.guard.now.sig.now c.args.guard.now.place c.args.guard.now.own.now c.args.guard.now.types.now c.args.guard.now.con.now c.args.depth (c.args.depth + c.from.result) c.args.tree.now c.in-Some.sym.now c.in-Some.types.now
    c.in-Some.children.now c.are_guarded.result c.in-Some.ensures.found (ap (λ n. c.args.depth + n) (c.from.ensures ∙ c.binds.ensures)) (c.is_guarded_at.ensures.0 c.if-not-is_guarded_at.false) c.are_guarded.ensures
