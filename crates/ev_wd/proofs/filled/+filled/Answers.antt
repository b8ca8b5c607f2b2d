use Rattle.std.proofs.Common.{ap, ◌-◌, arith}
use Rattle.ev_wd.proofs.Filling.{variable_extent}
use Rattle.ev_wd.proofs.filled.+filled.Goals as goal

pub filled_extent-returns-in-Some-var : goal.filled_extent-returns-in-Some-var
filled_extent-returns-in-Some-var t c =
    variable_extent c.args.tree.now c.in-Some-var.i c.args.under _ c.args.entries.now _ c.in-Some-var.ensures (omega arith) (ap (λ k. k - c.args.under) c.from-in-Some-var.ensures) c.entry_extent.ensures
