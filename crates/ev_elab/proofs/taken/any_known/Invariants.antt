use Rattle.std.specs.List.{list_any}
use Rattle.std.proofs.Common.{◌≡◌, drop}
use Rattle.ev_elab.specs.Unknown.{is_known}
use Rattle.ev_elab.proofs.taken.any_known.Given as goal

abbrev pub invariant-loop-name : goal.invariant-loop-name
invariant-loop-name l = list_any (is_known l.names.0 l.names.1) (drop l.name-index l.bound) ≡ list_any (is_known l.names.0 l.names.1) l.bound
