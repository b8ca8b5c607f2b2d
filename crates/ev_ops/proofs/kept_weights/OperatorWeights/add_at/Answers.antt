use Rattle.std.proofs.Common.{sym}
use Rattle.std.proofs.lemmas.Result.{on_ok_weaker}
use Rattle.ev_ops.proofs.Weighed.{entry_known}
use Rattle.ev_ops.proofs.kept_weights.OperatorWeights.add_at.Goals as goal

pub returns : goal.returns
returns c =
    on_ok_weaker c.add.result
    (λ h. entry_known c.args.env.now c.args.i c.in-Some.entry.now c.args.self.now.by_name.entries c.add.new.self.by_name.entries c.requires.well_formed (sym c.in-Some.ensures) c.requires.known h) c.add.ensures
