use Rattle.std.proofs.Common.{◌≡◌, ◌≤◌, drop, take, length}
use Rattle.ev_resolve.specs.inner.Inners.{binders_told, bound_vars}
use Rattle.ev_resolve.specs.inner.Scopes.{scope_of}
use Rattle.ev_resolve.proofs.bound.push_binders.Given as goal

abbrev pub invariant-loop-binder : goal.invariant-loop-binder
invariant-loop-binder l = record {
  told : bound_vars (binders_told (drop l.binder-index l.binders)) (scope_of l.scope) ≡ bound_vars (binders_told l.binders) (scope_of l.initial.scope);
  longer : length l.initial.scope ≤ length l.scope;
  kept : take (length l.initial.scope) l.scope ≡ l.initial.scope;
}
