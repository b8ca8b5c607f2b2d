use Rattle.std.proofs.Common.{◌≡◌, ◌∙◌, length, sym}
use Rattle.std.proofs.lemmas.Bool.{eqb-true}
use Rattle.std.proofs.lemmas.Result.{IfOk-weaker}
use Rattle.ev_terms.specs.Substitution.{inst}
use Rattle.ev_wd.specs.inner.Renaming.{renaming}
use Rattle.ev_wd.proofs.Renamings.{none_around}
use Rattle.ev_wd.proofs.renaming.renamed.Goals as goal

pub returns-then-is_empty : goal.returns-then-is_empty
returns-then-is_empty c =
    IfOk-weaker c.try_copy.result (λ t. t ≡ c.args.tree.now) (λ t. t ≡ inst (renaming c.args.kept.now) c.args.tree.now)
    (λ t e. e ∙ none_around c.args.kept.now c.args.tree.now (eqb-true (length c.args.kept.now) 0 (sym c.if-is_empty.ensures)))
    c.try_copy.ensures
