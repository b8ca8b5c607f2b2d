use Rattle.std.proofs.Common.{◌≡◌, ◌++◌, drop}
use Rattle.ev_elab.specs.Parts.{but}
use Rattle.ev_elab.proofs.bound.push_but.Given as goal

abbrev pub invariant-loop-name : goal.invariant-loop-name
invariant-loop-name l = l.names.items ++ but l.by (drop l.name-index l.more) ≡ l.initial.names.items ++ but l.by l.more
