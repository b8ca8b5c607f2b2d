use Rattle.std.proofs.Common.{◌≡◌, ◌++◌, map, drop}
use Rattle.ev_terms.specs.Substitution.{type_inst, type_at}
use Rattle.ev_typing.specs.declared.typing.Var.{Var}
use Rattle.ev_typing.proofs.instances.fields_at.Given as goal

abbrev pub invariant-loop-field : goal.invariant-loop-field
invariant-loop-field l =
    l.args ++ map (type_inst (type_at l.types)) (map (λ (f : Var). f.ty) (drop l.field-index l.fields))
    ≡ map (type_inst (type_at l.types)) (map (λ (f : Var). f.ty) l.fields)
