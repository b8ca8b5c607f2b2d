use Rattle.std.proofs.Common.{◌≡◌, take}
use Rattle.ev_elab.specs.Parts.{arg_names}
use Rattle.ev_elab.proofs.bound.arg_names.Given as goal

abbrev pub invariant-loop-arg : goal.invariant-loop-arg
invariant-loop-arg l = l.names.items ≡ arg_names (take l.arg-index l.args)
