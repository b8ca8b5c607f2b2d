use Rattle.std.proofs.Common.{◌≡◌, ◌+◌, length}
use Rattle.ev_terms.specs.Types.{type_list}
use Rattle.ev_terms.proofs.types.Tys.len.Given as goal

abbrev pub invariant-loop-left : goal.invariant-loop-left
invariant-loop-left l = l.count + length (type_list l.left) ≡ length (type_list l.self)
