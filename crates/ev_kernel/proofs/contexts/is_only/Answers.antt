use Rattle.ev_kernel.proofs.Lists.{only_rest, only_other}
use Rattle.ev_kernel.proofs.contexts.is_only.Goals as goal

pub returns-then-same : goal.returns-then-same
returns-then-same c =
    only_rest c.args.types.now _ c.get.result.now c.args.ty.now _ c.get-then-same.result.now c.is_empty.result c.in-More.is c.get.ensures c.get-then-same.ensures
    (c.same.ensures.0 c.if-same.true) c.is_empty.ensures

pub returns-else-same : goal.returns-else-same
returns-else-same c = only_other c.args.types.now _ c.get.result.now c.args.ty.now _ c.same.result c.in-More.is c.get.ensures c.same.ensures c.if-same.false
