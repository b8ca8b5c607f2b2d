use Rattle.std.proofs.Common.{◌≡◌, ◌++◌, ◌∷◌, drop}
use Rattle.std.specs.Prelude.{flat_map}
use Rattle.ev_rules.specs.Params.{branch_terms}
use Rattle.ev_rules.proofs.params.rewrite_formulas.Given as goal

abbrev pub invariant-loop-branch : goal.invariant-loop-branch
invariant-loop-branch l = l.trees ++ flat_map branch_terms (drop l.branch-index l.rule.branches) ≡ l.rule.left ∷ flat_map branch_terms l.rule.branches
