use Rattle.std.proofs.Common.{◌≡◌, drop}
use Rattle.ev_typing.specs.Env.{look_up}
use Rattle.ev_data.specs.Closed.{cases_by_name}
use Rattle.ev_data.proofs.equations.case_in.Given as goal

abbrev pub invariant-loop-i : goal.invariant-loop-i
invariant-loop-i l = look_up (cases_by_name (drop l.i l.decl.cons) (drop l.i l.bodies)) l.name ≡ look_up (cases_by_name l.decl.cons l.bodies) l.name
