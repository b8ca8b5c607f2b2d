use Rattle.std.proofs.Common.{◌≡◌, ◌++◌, take}
use Rattle.ev_oblig.proofs.lists.push_types.Given as goal

abbrev pub invariant-loop-ty : goal.invariant-loop-ty
invariant-loop-ty l = l.all.items ≡ l.initial.all.items ++ take l.ty-index l.types
