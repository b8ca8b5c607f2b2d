use Rattle.std.specs.Prelude.{◌≤◌, length}
use Rattle.std.proofs.Common.{rules, ◌++◌, ◌∙◌, ap, sym, map}
use Rattle.std.proofs.lemmas.List.{append-nil}
use Rattle.ev_typing.proofs.Names.{drop_all}
use Rattle.ev_resolve.specs.Resolve.{forget}
use Rattle.ev_resolve.specs.inner.Scopes.{seen}
use Rattle.ev_infer.specs.Answers.{variables}
use Rattle.ev_infer.proofs.ContextSteps.{scope_told}
use Rattle.ev_infer.proofs.contexts.scope_of.Goals as goal

pub returns : goal.returns
returns c =
    let past : length c.args.vars.now ≤ c.loop-var.var-index = search rules in
    scope_told c.loop-var.scope (variables c.args.vars.now)
    (sym (append-nil (map seen c.loop-var.scope))
    ∙ ap (λ l. map seen c.loop-var.scope ++ map forget (variables l)) (sym (drop_all c.args.vars.now c.loop-var.var-index past))
    ∙ c.loop-var.invariant)
