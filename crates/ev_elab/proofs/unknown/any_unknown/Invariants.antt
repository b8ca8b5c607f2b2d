use Rattle.std.specs.List.{list_any}
use Rattle.std.proofs.Common.{◌≡◌, drop}
use Rattle.ev_resolve.specs.inner.Unknown.{is_unknown}
use Rattle.ev_elab.proofs.unknown.any_unknown.Given as goal

abbrev pub invariant-loop-name : goal.invariant-loop-name
invariant-loop-name l = list_any (is_unknown l.names.1 l.names.0) (drop l.name-index l.used) ≡ list_any (is_unknown l.names.1 l.names.0) l.used
