use Rattle.std.proofs.lemmas.Result.{IfOk-weaker}
use Rattle.ev_theory_text.specs.inner.Following.{begins_branch}
use Rattle.ev_parse.proofs.Listing.{at_least_took}
use Rattle.ev_theory_text.proofs.Ending.{branches_ties}
use Rattle.ev_theory_text.proofs.branches.read_branches.Goals as goal

pub returns : goal.returns
returns c = IfOk-weaker c.further_branches.result _ _ (λ v h. at_least_took begins_branch branches_ties c.in_ok-branch.ensures c.in_ok-first.ensures h) c.further_branches.ensures
