use Rattle.ev_elab.proofs.Taking.{cases_told}
use Rattle.ev_elab.proofs.taken.cases_taken.Goals as goal

pub returns : goal.returns
returns c = cases_told c.args.args.now c.args.by.now c.args.cases.now _ c.any_case_taken.result c.in_ok-others.ensures c.any_case_taken.ensures
