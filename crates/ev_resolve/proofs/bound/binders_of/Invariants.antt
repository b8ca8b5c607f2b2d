use Rattle.std.proofs.Common.{◌≡◌, ◌++◌, drop}
use Rattle.ev_resolve.specs.inner.Inners.{binders_told}
use Rattle.ev_resolve.proofs.bound.binders_of.Given as goal

abbrev pub invariant-loop-binder : goal.invariant-loop-binder
invariant-loop-binder l = binders_told l.found.items ++ drop l.binder-index l.binders ≡ l.binders
