use Rattle.std.specs.List.{list_any}
use Rattle.std.proofs.Common.{◌≡◌, drop}
use Rattle.ev_elab.specs.inner.Tests.{arg_fails}
use Rattle.ev_elab.proofs.unknown.any_arg_fails.Given as goal

abbrev pub invariant-loop-arg : goal.invariant-loop-arg
invariant-loop-arg l =
    list_any (arg_fails l.names.1 l.names.0 l.count) (drop l.arg-index l.args) ≡ list_any (arg_fails l.names.1 l.names.0 l.count) l.args
