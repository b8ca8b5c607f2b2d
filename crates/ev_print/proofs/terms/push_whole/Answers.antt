use Rattle.ev_print.proofs.TypeSteps.{on_ok}
use Rattle.ev_print.proofs.TermSteps.{whole_step}
use Rattle.ev_print.proofs.terms.push_whole.Goals as goal

pub returns-in-More : goal.returns-in-More
returns-in-More c = on_ok c.push_whole_of.result (λ h. whole_step _ _ _ _ _ _ c.in-More.is c.get.ensures h) c.push_whole_of.ensures
