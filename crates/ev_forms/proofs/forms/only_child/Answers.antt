use Rattle.std.proofs.Common.{◌≡◌, ap, ◌∙◌}
use Rattle.ev_terms.specs.Term.{node, terms}
use Rattle.ev_terms.specs.declared.types.Sym.TheVariants.{Base}
use Rattle.ev_terms.specs.declared.types.Tys.{Empty}
use Rattle.ev_forms.proofs.Views.{none_weaker}
use Rattle.ev_forms.proofs.FormViews.{not_one}
use Rattle.ev_forms.proofs.forms.only_child.Goals as goal

pub returns-clause-none : goal.returns-clause-none
returns-clause-none c =
    let e : c.args.tree.now ≡ node (Base c.args.row) Empty (terms c.in_ok-found.children.now) =
    c.in_ok-found.ensures.found ∙ ap (λ r. node (Base r) Empty (terms c.in_ok-found.children.now)) c.if-found-row.false in
    none_weaker c.only_of.result (λ none P f. not_one c.args.tree.now c.args.row c.in_ok-found.children.now e none P f) c.only_of.ensures.none
