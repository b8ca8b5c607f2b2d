use Rattle.std.proofs.Common.{◌≡◌, drop}
use Rattle.ev_print.proofs.OpenSteps.{type_among}
use Rattle.ev_print.proofs.annotations.data_type.Given as goal

abbrev pub invariant-loop-con : goal.invariant-loop-con
invariant-loop-con l = type_among l.decl (drop l.con-index l.decl.cons) l.name ≡ type_among l.decl l.decl.cons l.name
