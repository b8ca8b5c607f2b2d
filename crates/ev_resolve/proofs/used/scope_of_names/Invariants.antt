use Rattle.std.proofs.Common.{◌≡◌, reverse, take}
use Rattle.ev_resolve.specs.UsedNames.{variable_names}
use Rattle.ev_resolve.specs.inner.Scopes.{scope_of}
use Rattle.ev_resolve.proofs.used.scope_of_names.Given as goal

abbrev pub invariant-loop-name : goal.invariant-loop-name
invariant-loop-name l = variable_names (scope_of l.scope) ≡ reverse (take l.name-index l.variables)
