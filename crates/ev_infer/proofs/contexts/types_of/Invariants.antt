use Rattle.std.proofs.Common.{◌≡◌, ◌++◌, drop}
use Rattle.ev_infer.specs.Annotates.{variables_context}
use Rattle.ev_infer.specs.Answers.{variables}
use Rattle.ev_infer.proofs.contexts.types_of.Given as goal

abbrev pub invariant-loop-var : goal.invariant-loop-var
invariant-loop-var l = l.types ++ variables_context (variables (drop l.var-index l.vars)) ≡ variables_context (variables l.vars)
