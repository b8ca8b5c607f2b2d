use Rattle.cases_ops.proofs.Operators.{good_signature}
use Rattle.cases_ops.proofs.declaring.is_good_signature.Goals as goal

pub returns-then-has_good_types : goal.returns-then-has_good_types
returns-then-has_good_types c = λ e. good_signature c.args.env.now c.args.signature.now (c.has_good_types.ensures c.if-has_good_types.true) (c.has_good_params.ensures e)
