use Rattle.std.proofs.Common.{◌≡◌, ◌++◌, map, drop}
use Rattle.ev_resolve.specs.Resolve.{forget}
use Rattle.ev_resolve.specs.inner.Scopes.{seen}
use Rattle.ev_infer.specs.Answers.{variables}
use Rattle.ev_infer.proofs.contexts.scope_of.Given as goal

abbrev pub invariant-loop-var : goal.invariant-loop-var
invariant-loop-var l = map seen l.scope ++ map forget (variables (drop l.var-index l.vars)) ≡ map forget (variables l.vars)
