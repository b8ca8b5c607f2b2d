use Rattle.std.proofs.Common.{◌≡◌, ◌++◌, vec_len}
use Rattle.ev_terms.specs.Types.{type_list}
use Rattle.ev_terms.proofs.types.Tys.from_vec.Given as goal

abbrev pub invariant-loop-last : goal.invariant-loop-last
invariant-loop-last l = l.left.items ++ type_list l.list ≡ l.fn.types.items

abbrev pub decreases-loop-last : goal.decreases-loop-last
decreases-loop-last l = vec_len l.left
