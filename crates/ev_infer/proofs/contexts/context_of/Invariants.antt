use Rattle.std.proofs.Common.{◌≡◌, ◌++◌, map, drop}
use Rattle.ev_infer.specs.Annotates.{variables_context}
use Rattle.ev_infer.specs.Answers.{variables}
use Rattle.ev_infer.specs.inner.Improper.{with_type_or_int}
use Rattle.ev_infer.proofs.contexts.context_of.Given as goal

abbrev pub invariant-loop-var : goal.invariant-loop-var
invariant-loop-var l = l.context.items ++ variables_context (variables (map (with_type_or_int l.env) (drop l.var-index l.vars))) ≡ variables_context (variables (map (with_type_or_int l.env) l.vars))
