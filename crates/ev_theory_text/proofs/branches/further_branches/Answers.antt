use Rattle.std.proofs.Common.{◌≤◌, suc, arith, sym, ◌∙◌}
use Rattle.ev_theory_text.specs.inner.Following.{begins_branch}
use Rattle.ev_parse.proofs.Takings.{left, took_strict}
use Rattle.ev_parse.proofs.Listing.{listed_none, listed_one, listed_all}
use Rattle.ev_theory_text.proofs.Ending.{branches_ties, branch_shrinks}
use Rattle.ev_theory_text.proofs.branches.further_branches.Goals as goal

pub further-init : goal.further-init
further-init c = listed_none c.args.first

pub further-smaller : goal.further-smaller
further-smaller c = let less : suc (left c.read_branch.new.cursor) ≤ left c.further.cursor =
    took_strict begins_branch branch_shrinks (sym c.begins_branch.ensures ∙ c.further-test.true) c.in_ok-branch.ensures in omega arith

pub further-preserved : goal.further-preserved
further-preserved c = listed_one begins_branch branches_ties c.further.invariant (sym c.begins_branch.ensures ∙ c.further-test.true) c.in_ok-branch.ensures c.in_ok-branches.ensures

pub returns : goal.returns
returns c = listed_all begins_branch branches_ties c.further.invariant (sym c.begins_branch.ensures ∙ c.further-test.false)
