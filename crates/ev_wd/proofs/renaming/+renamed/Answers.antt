use Rattle.std.proofs.Common.{◌≡◌, ◌∙◌, refl}
use Rattle.std.proofs.lemmas.Result.{IfOk-weaker}
use Rattle.ev_terms.specs.Term.{node, terms}
use Rattle.ev_terms.specs.Substitution.{inst, lifts}
use Rattle.ev_terms.proofs.Shifts.{substitute_gives}
use Rattle.ev_wd.specs.inner.Renaming.{renaming}
use Rattle.ev_wd.proofs.renaming.+renamed.Goals as goal

pub renamed_node-returns : goal.renamed_node-returns
renamed_node-returns t c =
    IfOk-weaker c.make_node.result (λ u. u ≡ node c.in_ok-sym.sym c.in_ok-types.types (terms c.in_ok-children.children))
    (λ u. u ≡ inst (lifts c.args.under (renaming c.args.kept.now)) (node c.args.sym.now c.args.types.now (terms c.args.children.now)))
    (λ u e. e ∙ substitute_gives c.args.under c.from.result (renaming c.args.kept.now) _ c.args.sym.now _ c.args.types.now _ c.args.children.now c.args.children.now _ refl
    refl (c.from.ensures ∙ c.binds.ensures) c.in_ok-sym.ensures c.in_ok-types.ensures c.in_ok-children.ensures)
    c.make_node.ensures
