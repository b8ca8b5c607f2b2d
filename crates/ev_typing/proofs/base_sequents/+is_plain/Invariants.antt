use Rattle.std.proofs.Common.{◌*◌, ◌+◌, drop}
use Rattle.std.specs.Prelude.{◌↔◌}
use Rattle.ev_terms.specs.Term.{terms}
use Rattle.ev_terms.specs.Measures.{depth, depths}
use Rattle.ev_typing.specs.Occurs.{ArePlain}
use Rattle.ev_typing.proofs.base_sequents.+is_plain.Given as goal

abbrev pub decreases-is_plain : goal.decreases-is_plain
decreases-is_plain l = 2 * depth l.tree.now

abbrev pub decreases-are_plain : goal.decreases-are_plain
decreases-are_plain l = 2 * depths (terms l.trees.now) + 1

abbrev pub invariant-are_plain-loop-tree : goal.invariant-are_plain-loop-tree
invariant-are_plain-loop-tree l = ArePlain l.env (terms (drop l.tree-index l.trees)) ↔ ArePlain l.env (terms l.trees)
