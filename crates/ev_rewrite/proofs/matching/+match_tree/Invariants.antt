use Rattle.std.proofs.Common.{◌≡◌, drop, length}
use Rattle.std.specs.Prelude.{Bool}
use Rattle.ev_terms.specs.Term.{terms}
use Rattle.ev_terms.proofs.Children.{rank, rank_children, rank_all}
use Rattle.ev_rewrite.specs.declared.slots.Found.{Found}
use Rattle.ev_rewrite.specs.inner.Taken.{TermsTaken}
use Rattle.ev_rewrite.proofs.matching.+match_tree.Given as goal

abbrev pub decreases-match_tree : goal.decreases-match_tree
decreases-match_tree l = rank l.pattern.now

abbrev pub decreases-match_node : goal.decreases-match_node
decreases-match_node l = rank_children l.children.now

abbrev pub decreases-match_all : goal.decreases-match_all
decreases-match_all l = rank_all l.patterns.now

-- what the rest adds to what is found, the whole adds to what was found
abbrev pub invariant-match_all-loop-i : goal.invariant-match_all-loop-i
invariant-match_all-loop-i l = record {
  slots : length l.found.terms.items ≡ length l.initial.found.terms.items;
  goes_on : (new : Found) (b : Bool) → TermsTaken (terms (drop l.i l.patterns)) l.depth (terms (drop l.i l.trees)) l.found new b →
      TermsTaken (terms l.patterns) l.depth (terms l.trees) l.initial.found new b;
}
