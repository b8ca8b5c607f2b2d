use Rattle.std.specs.List.{list_any}
use Rattle.std.proofs.Common.{◌≡◌, drop}
use Rattle.std.specs.Prelude.{bytes_eq}
use Rattle.indexmap.specs.IndexSet.{contains}
use Rattle.ev_elab.specs.inner.Takes.{label_taken}
use Rattle.ev_elab.proofs.taken.any_label_taken.Given as goal

abbrev pub invariant-loop-name : goal.invariant-loop-name
invariant-loop-name l = list_any (label_taken (contains bytes_eq l.labels) (contains bytes_eq l.own)) (drop l.name-index l.declared) ≡ list_any (label_taken (contains bytes_eq l.labels) (contains bytes_eq l.own)) l.declared
