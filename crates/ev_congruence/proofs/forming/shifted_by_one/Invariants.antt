use Rattle.std.proofs.Common.{◌≡◌, take, map}
use Rattle.ev_terms.specs.Substitution.{shift}
use Rattle.ev_congruence.proofs.forming.shifted_by_one.Given as goal

abbrev pub invariant-loop-tree : goal.invariant-loop-tree
invariant-loop-tree l = l.all ≡ map (λ t. shift t 0 1) (take l.tree-index l.trees)
