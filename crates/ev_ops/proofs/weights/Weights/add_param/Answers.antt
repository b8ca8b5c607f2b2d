use Rattle.std.proofs.Common.{rules, refl}
use Rattle.ev_ops.proofs.WeightLaws.{param_added}
use Rattle.ev_ops.proofs.weights.Weights.add_param.Goals as goal

pub returns-then-i-len : goal.returns-then-i-len
returns-then-i-len c =
    param_added c.args.self.now _ c.args.i c.index.result.now c.beside.result c.args.at refl refl refl (search rules) (search rules) c.beside.ensures
