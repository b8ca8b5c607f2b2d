use Rattle.std.proofs.Common.{◌≡◌, drop}
use Rattle.std.specs.Prelude.{flat_map}
use Rattle.ev_typing.specs.Env.{look_up, con_symbols}
use Rattle.ev_data.proofs.look_ups.constructor_in.Given as goal

abbrev pub invariant-loop-con : goal.invariant-loop-con
invariant-loop-con l = look_up (flat_map (con_symbols l.decl) (drop l.con-index l.decl.cons)) l.name ≡ look_up (flat_map (con_symbols l.decl) l.decl.cons) l.name
