use Rattle.std.proofs.Common.{◌≡◌, ◌+◌, drop}
use Rattle.ev_terms.specs.Types.{type_list}
use Rattle.ev_ops.proofs.guards.behind.Given as goal

abbrev pub invariant-loop-left : goal.invariant-loop-left
invariant-loop-left l = drop (l.further + 1) (type_list l.left) ≡ drop (l.place + 1) (type_list l.list)
