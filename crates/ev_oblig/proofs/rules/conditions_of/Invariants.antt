use Rattle.std.proofs.Common.{◌≡◌, map, take}
use Rattle.ev_rules.specs.declared.elements.Branch.{Branch}
use Rattle.ev_oblig.specs.Obligations.{condition_or_truth}
use Rattle.ev_oblig.proofs.rules.conditions_of.Given as goal

abbrev pub invariant-loop-branch : goal.invariant-loop-branch
invariant-loop-branch l = l.all ≡ map (λ (b : Branch). condition_or_truth b.condition) (take l.branch-index l.branches)
