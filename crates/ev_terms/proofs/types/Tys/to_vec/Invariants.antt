use Rattle.std.proofs.Common.{◌≡◌, ◌++◌}
use Rattle.ev_terms.specs.Types.{type_list}
use Rattle.ev_terms.proofs.types.Tys.to_vec.Given as goal

abbrev pub invariant-loop-left : goal.invariant-loop-left
invariant-loop-left l = l.types.items ++ type_list l.left ≡ type_list l.self
