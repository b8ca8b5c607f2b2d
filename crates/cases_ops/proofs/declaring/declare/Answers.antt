use Rattle.cases_ops.proofs.Operators.{new_operator}
use Rattle.cases_ops.proofs.declaring.declare.Goals as goal

pub add-requires-clause-new : goal.add-requires-clause-new
add-requires-clause-new c = new_operator c.args.env.now c.args.signature c.args.body (c.is_new.ensures c.if-not-is_new.false)
