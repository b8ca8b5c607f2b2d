use Rattle.std.proofs.Common.{◌≡◌, ◌≤◌, ℕ, map, drop, take, reverse, length}
use Rattle.ev_terms.specs.Measures.{capped}
use Rattle.ev_terms.specs.Term.{terms}
use Rattle.ev_terms.proofs.Children.{rank, rank_all}
use Rattle.ev_ops.specs.Unfold.{Bodies, unfold_by, unfold_all_by}
use Rattle.ev_ops.specs.declared.weights.Weights.{Weights}
use Rattle.ev_ops.specs.inner.Fit.{AreFit}
use Rattle.ev_ops.specs.inner.Weights.{IsAdded, AreWeighed, zipped, weigh, weigh_all}
use Rattle.ev_ops.proofs.kept_weights.OperatorWeights.+add_tree.Given as goal

abbrev pub decreases-add_tree : goal.decreases-add_tree
decreases-add_tree l = rank l.tree.now

abbrev pub decreases-add_trees : goal.decreases-add_trees
decreases-add_trees l = rank_all l.trees.now

abbrev pub decreases-add_arguments : goal.decreases-add_arguments
decreases-add_arguments l = rank_all l.arguments.now

abbrev pub invariant-add_trees-loop-tree : goal.invariant-add_trees-loop-tree
invariant-add_trees-loop-tree l =
    (bs : Bodies) (n : ℕ) → AreWeighed bs l.self.by_name.entries → AreFit bs (terms l.trees) → l.under ≡ capped n → (new : Weights) →
    IsAdded l.all new l.at (λ τ ω. weigh_all τ ω n (unfold_all_by bs (terms (drop l.tree-index l.trees)))) →
    IsAdded l.initial.all new l.at (λ τ ω. weigh_all τ ω n (unfold_all_by bs (terms l.trees)))

abbrev pub invariant-add_arguments-loop-weight : goal.invariant-add_arguments-loop-weight
invariant-add_arguments-loop-weight l = record {
  inside : l.left ≤ length l.arguments;
  goes_on : (bs : Bodies) (n : ℕ) → AreWeighed bs l.self.by_name.entries → AreFit bs (terms l.arguments) → l.under ≡ capped n → (new : Weights) →
      IsAdded l.all new l.at (λ τ ω. zipped (drop l.weight-index l.weights) (map (λ u. weigh τ ω n (unfold_by bs u)) (reverse (take l.left l.arguments)))) →
      IsAdded l.initial.all new l.at (λ τ ω. zipped l.weights (map (λ u. weigh τ ω n (unfold_by bs u)) (reverse l.arguments)));
}
