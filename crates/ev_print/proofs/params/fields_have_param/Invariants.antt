use Rattle.std.proofs.Common.{◌≡◌, map, drop}
use Rattle.std.specs.List.{list_any}
use Rattle.ev_typing.specs.declared.typing.Var.{Var}
use Rattle.ev_typing.specs.Occurs.{has_param}
use Rattle.ev_print.proofs.params.fields_have_param.Given as goal

abbrev pub invariant-loop-field : goal.invariant-loop-field
invariant-loop-field l =
    list_any (has_param l.i) (map (λ (f : Var). f.ty) (drop l.field-index l.fields)) ≡ list_any (has_param l.i) (map (λ (f : Var). f.ty) l.fields)
