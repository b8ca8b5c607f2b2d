use Rattle.ev_typing.proofs.BaseSequents.{plain_node}
use Rattle.ev_typing.proofs.base_sequents.+is_plain.Goals as goal

pub is_plain-returns-else-is_direct : goal.is_plain-returns-else-is_direct
is_plain-returns-else-is_direct t c =
    plain_node c.args.env.now c.args.tree.now c.in-Some.sym.now c.children.result.now c.are_plain.result c.is_direct.result c.in-Some.ensures c.children.ensures c.is_direct.ensures
    c.if-is_direct.false c.are_plain.ensures
