use Rattle.std.proofs.Common.{refl}
use Rattle.std.proofs.lemmas.Result.{on_ok_weaker}
use Rattle.ev_ops.proofs.Weighed.{operator_known, other_known}
use Rattle.ev_ops.proofs.kept_weights.OperatorWeights.add.Goals as goal

pub returns-in-Data : goal.returns-in-Data
returns-in-Data c = λ e r w k. other_known e c.args.entry.now _ c.args.self.now.by_name.entries c.in-Data.is refl k

pub returns-in-Constant : goal.returns-in-Constant
returns-in-Constant c = λ e r w k. other_known e c.args.entry.now _ c.args.self.now.by_name.entries c.in-Constant.is refl k

pub returns-in-Recursive : goal.returns-in-Recursive
returns-in-Recursive c = λ e r w k. other_known e c.args.entry.now _ c.args.self.now.by_name.entries c.in-Recursive.is refl k

pub returns-in-Direct : goal.returns-in-Direct
returns-in-Direct c =
    on_ok_weaker c.add_operator.result
    (λ h e r w k. operator_known e r c.args.entry.now c.in-Direct.signature _ c.in-Direct.body c.args.self.now.by_name.entries c.add_operator.new.self.by_name.entries w c.in-Direct.is k h) c.add_operator.ensures
