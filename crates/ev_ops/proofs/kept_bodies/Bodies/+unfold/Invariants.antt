use Rattle.std.proofs.Common.{◌≡◌, map, take}
use Rattle.ev_terms.proofs.Children.{rank, rank_all}
use Rattle.ev_ops.specs.Unfold.{unfold_by}
use Rattle.ev_ops.proofs.kept_bodies.Bodies.+unfold.Given as goal

abbrev pub decreases-unfold : goal.decreases-unfold
decreases-unfold l = rank l.tree.now

abbrev pub decreases-unfold_all : goal.decreases-unfold_all
decreases-unfold_all l = rank_all l.trees.now

abbrev pub invariant-unfold_all-loop-tree : goal.invariant-unfold_all-loop-tree
invariant-unfold_all-loop-tree l = l.all ≡ map (unfold_by l.self) (take l.tree-index l.trees)
