use Rattle.std.specs.List.{list_any}
use Rattle.std.proofs.Common.{◌≡◌, drop}
use Rattle.std.specs.Prelude.{bytes_eq}
use Rattle.indexmap.specs.IndexSet.{contains}
use Rattle.ev_elab.specs.Unknown.{is_known}
use Rattle.ev_elab.specs.inner.Takes.{formula_name_taken}
use Rattle.ev_elab.proofs.taken.any_formula_name_taken.Given as goal

abbrev pub invariant-loop-name : goal.invariant-loop-name
invariant-loop-name l = list_any (formula_name_taken (is_known l.names.0 l.names.1) (contains bytes_eq l.labels)) (drop l.name-index l.declared) ≡ list_any (formula_name_taken (is_known l.names.0 l.names.1) (contains bytes_eq l.labels)) l.declared
