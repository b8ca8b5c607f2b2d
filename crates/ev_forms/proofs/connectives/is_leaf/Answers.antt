use Rattle.std.proofs.Common.{◌≡◌, ap, ◌∙◌}
use Rattle.ev_terms.specs.Term.{node, terms}
use Rattle.ev_terms.specs.declared.types.Sym.TheVariants.{Base}
use Rattle.ev_terms.specs.declared.types.Tys.{Empty}
use Rattle.ev_forms.proofs.Views.{leaf_true, leaf_only}
use Rattle.ev_forms.proofs.connectives.is_leaf.Goals as goal

pub returns-else-found-row : goal.returns-else-found-row
returns-else-found-row c =
    let e : c.args.tree.now ≡ node (Base c.args.row) Empty (terms c.in-Some.children.now) =
    c.in-Some.ensures.found ∙ ap (λ r. node (Base r) Empty (terms c.in-Some.children.now)) c.if-found-row.false in
    (leaf_true _ _ _ _ e c.is_empty.ensures, leaf_only _ _ _ _ e c.is_empty.ensures)
