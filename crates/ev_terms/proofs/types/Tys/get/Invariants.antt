use Rattle.std.proofs.Common.{◌≡◌}
use Rattle.std.specs.Prelude.{slice_get}
use Rattle.ev_terms.specs.Types.{type_list}
use Rattle.ev_terms.proofs.types.Tys.get.Given as goal

abbrev pub invariant-loop-left : goal.invariant-loop-left
invariant-loop-left l = slice_get (type_list l.left) l.at ≡ slice_get (type_list l.self) l.i
