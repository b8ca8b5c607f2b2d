use Rattle.std.specs.List.{list_any}
use Rattle.std.proofs.Common.{◌≡◌, drop, reverse}
use Rattle.ev_elab.specs.inner.Tests.{formula_fails}
use Rattle.ev_elab.proofs.unknown.any_formula_fails.Given as goal

abbrev pub invariant-loop-raw : goal.invariant-loop-raw
invariant-loop-raw l =
    list_any (formula_fails l.names.1 l.names.0 l.count (reverse l.bound)) (drop l.raw-index l.raws) ≡ list_any (formula_fails l.names.1 l.names.0 l.count (reverse l.bound)) l.raws
