use Rattle.std.proofs.Common.{◌≡◌, ◌++◌, map, drop}
use Rattle.ev_infer.specs.inner.Improper.{marked}
use Rattle.ev_infer.proofs.contexts.marks_of.Given as goal

abbrev pub invariant-loop-var : goal.invariant-loop-var
invariant-loop-var l = l.marks.items ++ map (marked l.env) (drop l.var-index l.vars) ≡ map (marked l.env) l.vars
