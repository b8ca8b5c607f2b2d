use Rattle.std.proofs.Common.{◌*◌, ◌+◌}
use Rattle.ev_terms.specs.Term.{terms}
use Rattle.ev_terms.specs.Measures.{depth, depths}
use Rattle.cases_infer.proofs.bares.+forgotten.Given as goal

abbrev pub decreases-forgotten : goal.decreases-forgotten
decreases-forgotten l = 2 * depth l.tree.now

abbrev pub decreases-all_forgotten : goal.decreases-all_forgotten
decreases-all_forgotten l = 2 * depths (terms l.trees.now) + 1
