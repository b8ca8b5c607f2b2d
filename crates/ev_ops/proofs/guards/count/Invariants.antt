use Rattle.std.proofs.Common.{◌≡◌, ◌≤◌, ◌+◌, length}
use Rattle.ev_terms.specs.Types.{type_list}
use Rattle.ev_terms.specs.Measures.{capped}
use Rattle.ev_ops.proofs.guards.count.Given as goal

abbrev pub invariant-loop-left : goal.invariant-loop-left
invariant-loop-left l = record {
  so_far : capped (l.n + length (type_list l.left)) ≡ capped (length (type_list l.list));
  small : l.n ≤ 18446744073709551615;
}
