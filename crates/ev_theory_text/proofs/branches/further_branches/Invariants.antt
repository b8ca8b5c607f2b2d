use Rattle.ev_theory_text.specs.Elements.{ReadsBranch}
use Rattle.ev_theory_text.specs.Depths.{branch_deep}
use Rattle.ev_theory_text.specs.inner.Following.{EndsBranches}
use Rattle.ev_parse.proofs.Takings.{left}
use Rattle.ev_parse.proofs.Listing.{Listed}
use Rattle.ev_theory_text.proofs.branches.further_branches.Given as goal

abbrev pub invariant-further : goal.invariant-further
invariant-further l = Listed ReadsBranch EndsBranches branch_deep l.fn.first l.fn.cursor l.branches l.cursor

abbrev pub decreases-further : goal.decreases-further
decreases-further l = left l.cursor
