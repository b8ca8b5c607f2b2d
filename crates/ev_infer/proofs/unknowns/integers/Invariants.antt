use Rattle.std.proofs.Common.{◌≡◌, length}
use Rattle.ev_infer.proofs.unknowns.integers.Given as goal

abbrev pub invariant-loop : goal.invariant-loop
invariant-loop l = length l.types.items ≡ l.counter
