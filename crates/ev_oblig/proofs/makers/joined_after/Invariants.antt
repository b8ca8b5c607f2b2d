use Rattle.std.proofs.Common.{◌≡◌, drop}
use Rattle.std.specs.Prelude.{fold}
use Rattle.ev_forms.specs.Connectives.{joined}
use Rattle.ev_oblig.proofs.makers.joined_after.Given as goal

abbrev pub invariant-loop-tree : goal.invariant-loop-tree
invariant-loop-tree l = fold (joined l.connective) l.all (drop l.tree-index l.rest) ≡ fold (joined l.connective) l.fn.first l.rest
