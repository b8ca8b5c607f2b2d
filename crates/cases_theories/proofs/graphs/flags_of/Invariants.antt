use Rattle.std.proofs.Common.{◌≡◌, length}
use Rattle.cases_theories.proofs.graphs.flags_of.Given as goal

abbrev pub invariant-loop-place : goal.invariant-loop-place
invariant-loop-place l = length l.flags.items ≡ l.place
