use Rattle.std.proofs.Common.{◌≡◌, ◌≤◌, ◌++◌, length, take, drop}
use Rattle.ev_resolve.specs.UsedNames.{names_of, variable_names}
use Rattle.ev_resolve.specs.inner.Inners.{binders_told}
use Rattle.ev_resolve.specs.inner.Scopes.{scope_of}
use Rattle.ev_resolve.proofs.used.push_names.Given as goal

abbrev pub invariant-names : goal.invariant-names
invariant-names l = record {
  within : l.left ≤ length l.binders;
  names : variable_names (scope_of l.scope) ≡ names_of (binders_told (drop l.left l.binders)) ++ variable_names (scope_of l.initial.scope);
  kept : take (length l.initial.scope) l.scope ≡ l.initial.scope;
}

abbrev pub decreases-names : goal.decreases-names
decreases-names l = l.left
