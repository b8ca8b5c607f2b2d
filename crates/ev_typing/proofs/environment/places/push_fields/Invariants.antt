use Rattle.std.proofs.Common.{◌≡◌, ◌++◌, drop}
use Rattle.ev_typing.specs.inner.Places.{field_places}
use Rattle.ev_typing.proofs.environment.places.push_fields.Given as goal

abbrev pub invariant-loop-i : goal.invariant-loop-i
invariant-loop-i l = l.places.items ++ field_places l.number l.con l.i (drop l.i l.fields) ≡ l.fn.places.items ++ field_places l.number l.con 0 l.fields
