use Rattle.std.proofs.Common.{◌≡◌, drop, max}
use Rattle.ev_terms.specs.Term.{terms}
use Rattle.ev_terms.specs.Measures.{all_params}
use Rattle.ev_rules.proofs.occurring.greatest_param.Given as goal

abbrev pub invariant-loop-tree : goal.invariant-loop-tree
invariant-loop-tree l = max l.greatest (all_params (terms (drop l.tree-index l.trees))) ≡ all_params (terms l.trees)
