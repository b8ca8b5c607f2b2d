use Rattle.ev_print.proofs.TypeSteps.{on_ok}
use Rattle.ev_print.proofs.TermSteps.{bound_step}
use Rattle.ev_print.proofs.terms.push_bound.Goals as goal

pub returns-in-More : goal.returns-in-More
returns-in-More c =
    on_ok c.push_type.result (λ h. bound_step _ _ _ _ c.args.n _ _ _ _ c.in-More.is c.get.ensures c.in_ok-push_variable.ensures c.in_ok-append.ensures h) c.push_type.ensures
