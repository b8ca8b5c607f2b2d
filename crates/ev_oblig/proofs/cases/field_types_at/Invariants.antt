use Rattle.std.proofs.Common.{◌≡◌, map, take}
use Rattle.ev_terms.specs.Substitution.{type_inst, type_at}
use Rattle.ev_typing.specs.declared.typing.Var.{Var}
use Rattle.ev_oblig.proofs.cases.field_types_at.Given as goal

abbrev pub invariant-loop-field : goal.invariant-loop-field
invariant-loop-field l = l.all.items ≡ map (type_inst (type_at l.types)) (map (λ (f : Var). f.ty) (take l.field-index l.con.fields))
