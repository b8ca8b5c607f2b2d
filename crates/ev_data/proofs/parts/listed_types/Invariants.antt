use Rattle.std.proofs.Common.{◌≡◌, ◌++◌}
use Rattle.ev_terms.specs.Types.{type_list}
use Rattle.ev_data.proofs.parts.listed_types.Given as goal

abbrev pub invariant-loop-left : goal.invariant-loop-left
invariant-loop-left l = l.all.items ++ type_list l.left ≡ type_list l.list
