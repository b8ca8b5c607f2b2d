use Rattle.std.specs.List.{list_any}
use Rattle.std.proofs.Common.{◌≡◌, drop}
use Rattle.ev_resolve.specs.TakenNames.{takes_name}
use Rattle.ev_elab.proofs.taken.any_formula_takes.Given as goal

abbrev pub invariant-loop-raw : goal.invariant-loop-raw
invariant-loop-raw l = list_any (takes_name l.names.1 l.names.0) (drop l.raw-index l.raws) ≡ list_any (takes_name l.names.1 l.names.0) l.raws
