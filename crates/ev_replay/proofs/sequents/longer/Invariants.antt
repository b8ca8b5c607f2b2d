use Rattle.std.proofs.Common.{◌≡◌, ◌++◌, take}
use Rattle.ev_terms.specs.Types.{type_list}
use Rattle.ev_replay.proofs.sequents.longer.Given as goal

abbrev pub invariant-loop-ty : goal.invariant-loop-ty
invariant-loop-ty l = l.all.items ≡ type_list l.context ++ take l.ty-index l.more
