use Rattle.std.proofs.Common.{◌≡◌, take}
use Rattle.std.specs.Prelude.{map}
use Rattle.ev_elab.specs.Types.{own_var}
use Rattle.ev_elab.proofs.heads.own_vars.Given as goal

abbrev pub invariant-loop-var : goal.invariant-loop-var
invariant-loop-var l = l.all ≡ map (own_var l.own) (take l.var-index l.vars)
