use Rattle.std.proofs.Common.{◌≡◌, ◌++◌}
use Rattle.ev_forms.specs.Forms.{vars}
use Rattle.ev_wd.proofs.symbols.make_vars.Given as goal

abbrev pub invariant-loop-left : goal.invariant-loop-left
invariant-loop-left l = l.all ++ vars l.left ≡ vars l.n

abbrev pub decreases-loop-left : goal.decreases-loop-left
decreases-loop-left l = l.left
