use Rattle.std.proofs.Common.{◌≡◌, ◌+◌, length}
use Rattle.ev_axioms.proofs.Kept.{Each}
use Rattle.ev_axioms.proofs.axioms.Axioms+AXIOM_COUNT.new.Given as goal

abbrev pub invariant-loop-k : goal.invariant-loop-k
invariant-loop-k l = record {
  count : length l.rows + 1 ≡ l.k;
  each : Each l.rows;
}
