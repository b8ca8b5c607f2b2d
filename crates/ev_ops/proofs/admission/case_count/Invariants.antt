use Rattle.std.proofs.Common.{◌≡◌, ◌≤◌, take}
use Rattle.std.specs.Prelude.{bytes_eq, count_by}
use Rattle.ev_ops.specs.declared.cases.Case.{Case}
use Rattle.ev_ops.proofs.admission.case_count.Given as goal

abbrev pub invariant-loop-case : goal.invariant-loop-case
invariant-loop-case l = record {
  so_far : l.count ≡ count_by (λ (k : Case). bytes_eq k.con l.con.name) (take l.case-index l.cases);
  small : l.count ≤ l.case-index;
}
