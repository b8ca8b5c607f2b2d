use Rattle.std.proofs.Common.{◌≡◌, ◌++◌, drop}
use Rattle.ev_elab.specs.Parts.{case_names}
use Rattle.ev_elab.proofs.bound.case_names.Given as goal

abbrev pub invariant-loop-i : goal.invariant-loop-i
invariant-loop-i l = l.names.items ++ case_names l.by l.vars (drop l.i l.args) ≡ case_names l.by l.vars l.args
