use Rattle.std.proofs.Common.{◌≡◌, ◌+◌, ◌≤◌, length}
use Rattle.ev_terms.specs.Types.{type_list}
use Rattle.cases_ops.proofs.declaring.is_short.Given as goal

abbrev pub invariant-loop-left : goal.invariant-loop-left
invariant-loop-left l = record {
  small : l.room ≤ 1000;
  counts : length (type_list l.types) + l.room ≡ length (type_list l.left) + 1000;
}
