use Rattle.std.proofs.Common.{◌≡◌, drop}
use Rattle.std.specs.Prelude.{slice_get}
use Rattle.ev_axioms.specs.inner.Rows.{joined}
use Rattle.ev_axioms.proofs.rows.row_in.Given as goal

abbrev pub invariant-loop-group : goal.invariant-loop-group
invariant-loop-group l = slice_get (joined (drop l.group-index l.groups)) l.left ≡ slice_get (joined l.groups) l.place
