use Rattle.std.proofs.Common.{◌≡◌, ◌≤◌, drop, max}
use Rattle.ev_terms.specs.Term.{terms}
use Rattle.ev_terms.specs.Measures.{all_loose}
use Rattle.ev_wd.proofs.symbols.greatest_loose.Given as goal

abbrev pub invariant-loop-tree : goal.invariant-loop-tree
invariant-loop-tree l = record {
  so_far : max l.greatest (all_loose (terms (drop l.tree-index l.trees))) ≡ all_loose (terms l.trees);
  small : l.greatest ≤ 4294967296;
}
