use Rattle.std.proofs.Common.{◌≡◌, ◌++◌}
use Rattle.ev_terms.specs.Types.{type_list}
use Rattle.ev_typing.proofs.symbol_types.listed.Given as goal

abbrev pub invariant-loop-left : goal.invariant-loop-left
invariant-loop-left l = l.list ++ type_list l.left ≡ type_list l.types
