use Rattle.ev_forms.specs.Binders.{related}
use Rattle.ev_forms.proofs.FormViews.{if_none, not_related}
use Rattle.ev_forms.proofs.forms.related_parts.Goals as goal

pub returns-in_err-left-clause-none : goal.returns-in_err-left-clause-none
returns-in_err-left-clause-none c =
    if_none c.from_residual-in_err-left.result c.from_residual-in_err-left.ensures
    (not_related c.args.tree.now c.row_of_relation.result c.in_ok-types.types.now c.in_ok-types.children.now (related c.args.relation)
    c.in_ok-types.ensures.found c.row_of_relation.ensures c.in_err-left.ensures.none)
