use Rattle.std.proofs.Common.{ap, ◌∙◌}
use Rattle.ev_resolve.specs.UsedNames.{is_name_among, variable_names}
use Rattle.ev_resolve.specs.inner.Scopes.{scope_of}
use Rattle.ev_resolve.proofs.PlaceSteps.{named_scope}
use Rattle.ev_resolve.proofs.scope.Scope.has.Goals as goal

pub returns : goal.returns
returns c =
    c.contains_key.ensures ∙ named_scope c.self.inside.innermost c.self.inside.slots.items c.self.invariant c.args.name.now
    ∙ ap (λ vs. is_name_among (variable_names (scope_of vs)) c.args.name.now) c.self.view_is
