use Rattle.std.proofs.Common.{◌≡◌, drop}
use Rattle.ev_resolve.specs.UsedNames.{is_name_among}
use Rattle.ev_elab.proofs.unknown.is_among.Given as goal

abbrev pub invariant-loop-other : goal.invariant-loop-other
invariant-loop-other l = is_name_among (drop l.other-index l.names) l.name ≡ is_name_among l.names l.name
