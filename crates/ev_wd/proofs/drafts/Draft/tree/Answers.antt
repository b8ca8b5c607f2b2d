use Rattle.std.proofs.Common.{◌≡◌, ◌∙◌, []}
use Rattle.std.proofs.lemmas.Result.{IfOk-weaker}
use Rattle.ev_terms.specs.Substitution.{inst}
use Rattle.ev_terms.proofs.Laws.{inst-id}
use Rattle.ev_wd.specs.inner.Renaming.{renaming}
use Rattle.ev_wd.specs.inner.Sketches.{meaning}
use Rattle.ev_wd.proofs.drafts.Draft.tree.Goals as goal

pub returns : goal.returns
returns c =
    IfOk-weaker c.built.result (λ t. t ≡ inst (renaming []) (meaning c.self.inside.sketch)) (λ t. t ≡ c.args.self.now)
    (λ t e. e ∙ inst-id (meaning c.self.inside.sketch) ∙ c.self.view_is)
    c.built.ensures
