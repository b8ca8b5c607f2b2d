use Rattle.std.proofs.Common.{◌≡◌, map, take}
use Rattle.ev_terms.specs.Substitution.{shift}
use Rattle.ev_replay.proofs.sequents.all_raised.Given as goal

abbrev pub invariant-loop-tree : goal.invariant-loop-tree
invariant-loop-tree l = l.all ≡ map (λ t. shift t 0 l.by) (take l.tree-index l.trees)
