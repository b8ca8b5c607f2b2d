use Rattle.std.specs.Prelude.{◌≡◌, ◌++◌}
use Rattle.ev_unify.specs.Patterns.{pat_list}
use Rattle.ev_unify.proofs.cells.push_all.Given as goal

abbrev pub invariant-loop-left : goal.invariant-loop-left
invariant-loop-left l = l.pats.items ++ pat_list l.left ≡ l.initial.pats.items ++ pat_list l.fn.list
