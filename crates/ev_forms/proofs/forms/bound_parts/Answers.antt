use Rattle.ev_forms.specs.Binders.{bound}
use Rattle.ev_forms.proofs.FormViews.{if_none, not_bound}
use Rattle.ev_forms.proofs.forms.bound_parts.Goals as goal

pub returns-in_err-body-clause-none : goal.returns-in_err-body-clause-none
returns-in_err-body-clause-none c =
    if_none c.from_residual-in_err-body.result c.from_residual-in_err-body.ensures
    (not_bound c.args.tree.now c.row_of_binder.result c.in_ok-types.types.now c.in_ok-types.children.now (bound c.args.binder)
    c.in_ok-types.ensures.found c.row_of_binder.ensures c.in_err-body.ensures.none)
