use Rattle.std.proofs.Common.{◌≡◌, ◌+◌, ◌≤◌, max, drop}
use Rattle.ev_terms.specs.Term.{terms}
use Rattle.ev_terms.specs.Measures.{sizes, depths, capped}
use Rattle.ev_terms.specs.Substitution.{insts, lifts, entry}
use Rattle.ev_terms.proofs.Children.{rank, rank_all}
use Rattle.ev_wd.proofs.filled.+filled.Given as goal

abbrev pub decreases-filled_extent : goal.decreases-filled_extent
decreases-filled_extent l = rank l.tree.now

abbrev pub decreases-filled_extents : goal.decreases-filled_extents
decreases-filled_extents l = rank_all l.trees.now

abbrev pub invariant-filled_extents-loop-tree : goal.invariant-filled_extents-loop-tree
invariant-filled_extents-loop-tree l = record {
  size_fits : l.all.size ≤ 18446744073709551615;
  size_is : capped (l.all.size + sizes (insts (lifts l.under (entry l.entries)) (terms (drop l.tree-index l.trees)))) ≡ capped (sizes (insts (lifts l.under (entry l.entries)) (terms l.trees)));
  depth_is : max l.all.depth (capped (depths (insts (lifts l.under (entry l.entries)) (terms (drop l.tree-index l.trees))))) ≡ capped (depths (insts (lifts l.under (entry l.entries)) (terms l.trees)));
}
