use Rattle.std.specs.Prelude.{◌≡◌, ◌++◌}
use Rattle.ev_unify.specs.inner.Links.{paired}
use Rattle.ev_unify.proofs.cells.Cells.pair_children.Given as goal

abbrev pub invariant-loop-k : goal.invariant-loop-k
invariant-loop-k l = l.work.items ≡ l.initial.work.items ++ paired l.start l.other l.k
