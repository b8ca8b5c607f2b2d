use Rattle.std.proofs.Common.{◌≤◌, drop}
use Rattle.std.specs.List.{AllByRecursion}
use Rattle.cases_congruence.proofs.following.are_within.Given as goal

abbrev pub invariant-loop-number : goal.invariant-loop-number
invariant-loop-number l = AllByRecursion (λ n. (1 ≤ n) × (n ≤ l.count)) (drop l.number-index l.numbers) → AllByRecursion (λ n. (1 ≤ n) × (n ≤ l.count)) l.numbers
