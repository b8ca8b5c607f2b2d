use Rattle.std.proofs.Common.{◌≡◌, length}
use Rattle.std.specs.Prelude.{◌==◌}
use Rattle.ev_terms.specs.Types.{type_list}
use Rattle.ev_typing.proofs.instances.has_count.Given as goal

abbrev pub invariant-loop-left : goal.invariant-loop-left
invariant-loop-left l = (length (type_list l.left) == l.missing) ≡ (length (type_list l.types) == l.n)
