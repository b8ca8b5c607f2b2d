use Rattle.std.proofs.Common.{◌≡◌, take}
use Rattle.ev_elab.specs.Types.{var_types}
use Rattle.ev_elab.proofs.heads.var_types.Given as goal

abbrev pub invariant-loop-var : goal.invariant-loop-var
invariant-loop-var l = l.all.items ≡ var_types (take l.var-index l.vars)
