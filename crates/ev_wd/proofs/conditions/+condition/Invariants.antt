use Rattle.std.proofs.Common.{◌≡◌, drop}
use Rattle.ev_terms.specs.Term.{terms}
use Rattle.ev_wd.specs.Limits.{IsSmall}
use Rattle.ev_wd.specs.Makers.{joined_after, joined}
use Rattle.ev_wd.specs.WellDefined.{wds}
use Rattle.ev_wd.proofs.Walking.{rank, rank_children}
use Rattle.ev_wd.proofs.conditions.+condition.Given as goal

abbrev pub decreases-condition : goal.decreases-condition
decreases-condition l = rank l.tree.now

abbrev pub decreases-node_condition : goal.decreases-node_condition
decreases-node_condition l = rank_children 5 l.children.now

abbrev pub decreases-base_condition : goal.decreases-base_condition
decreases-base_condition l = rank_children 4 l.children.now

abbrev pub decreases-both_condition : goal.decreases-both_condition
decreases-both_condition l = rank_children 3 l.children.now

abbrev pub decreases-either_condition : goal.decreases-either_condition
decreases-either_condition l = rank_children 3 l.children.now

abbrev pub decreases-bound_condition : goal.decreases-bound_condition
decreases-bound_condition l = rank_children 3 l.children.now

abbrev pub decreases-all_conditions : goal.decreases-all_conditions
decreases-all_conditions l = rank_children 2 l.trees.now

abbrev pub invariant-all_conditions-loop-tree : goal.invariant-all_conditions-loop-tree
invariant-all_conditions-loop-tree l = record {
  so_far : joined_after l.all (wds l.env (terms (drop l.tree-index l.trees))) ≡ joined (wds l.env (terms l.trees));
  small : IsSmall l.all;
}
