use Rattle.std.proofs.Common.{◌≡◌, ◌++◌, drop}
use Rattle.ev_typing.specs.inner.Places.{con_places}
use Rattle.ev_typing.proofs.environment.places.push_cons.Given as goal

abbrev pub invariant-loop-i : goal.invariant-loop-i
invariant-loop-i l = l.places.items ++ con_places l.number l.i (drop l.i l.cons) ≡ l.fn.places.items ++ con_places l.number 0 l.cons
