use Rattle.std.proofs.Common.{◌≡◌, Some, map, take}
use Rattle.ev_congruence.proofs.walking.all_some.Given as goal

abbrev pub invariant-loop-number : goal.invariant-loop-number
invariant-loop-number l = l.all ≡ map (λ n. Some n) (take l.number-index l.numbers)
