use Rattle.std.proofs.Common.{◌≡◌, ◌≤◌, length, reverse, drop}
use Rattle.ev_resolve.specs.UsedNames.{variable_names}
use Rattle.ev_infer.specs.Answers.{variables}
use Rattle.ev_infer.proofs.contexts.names_of.Given as goal

abbrev pub invariant-loop-i : goal.invariant-loop-i
invariant-loop-i l = record {
  within : l.i ≤ length l.vars;
  names : reverse l.names.items ≡ variable_names (variables (drop l.i l.vars));
}

abbrev pub decreases-loop-i : goal.decreases-loop-i
decreases-loop-i l = l.i
