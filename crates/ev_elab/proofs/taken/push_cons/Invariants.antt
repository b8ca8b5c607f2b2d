use Rattle.std.proofs.Common.{◌≡◌, ◌++◌, drop}
use Rattle.std.specs.Prelude.{flat_map}
use Rattle.ev_elab.specs.Taken.{raw_con_names}
use Rattle.ev_elab.proofs.taken.push_cons.Given as goal

abbrev pub invariant-loop-con : goal.invariant-loop-con
invariant-loop-con l = l.names.items ++ flat_map raw_con_names (drop l.con-index l.cons) ≡ l.initial.names.items ++ flat_map raw_con_names l.cons
