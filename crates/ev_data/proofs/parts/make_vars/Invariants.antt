use Rattle.std.proofs.Common.{◌≡◌, ◌≤◌, ◌++◌}
use Rattle.ev_forms.specs.Forms.{vars_above}
use Rattle.ev_data.proofs.parts.make_vars.Given as goal

abbrev pub invariant-loop-left : goal.invariant-loop-left
invariant-loop-left l = record {
  within : l.left ≤ l.n;
  so_far : l.all ++ vars_above l.left l.inner ≡ vars_above l.n l.inner;
}

abbrev pub decreases-loop-left : goal.decreases-loop-left
decreases-loop-left l = l.left
