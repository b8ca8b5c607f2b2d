use Rattle.std.proofs.Common.{◌≡◌, ◌++◌, length}
use Rattle.ev_terms.specs.Types.{type_list}
use Rattle.ev_infer.proofs.solving.listed.Given as goal

abbrev pub invariant-loop-last : goal.invariant-loop-last
invariant-loop-last l = l.types.items ++ type_list l.list ≡ l.fn.types.items

abbrev pub decreases-loop-last : goal.decreases-loop-last
decreases-loop-last l = length l.types.items
