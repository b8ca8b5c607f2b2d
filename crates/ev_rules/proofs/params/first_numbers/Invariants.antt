use Rattle.std.proofs.Common.{◌≡◌, ◌++◌, ◌-◌}
use Rattle.std.specs.List.{range_with_len}
use Rattle.ev_rules.proofs.params.first_numbers.Given as goal

abbrev pub invariant-loop-i : goal.invariant-loop-i
invariant-loop-i l = l.ids ++ range_with_len l.i (l.n - l.i) ≡ range_with_len 0 l.n
