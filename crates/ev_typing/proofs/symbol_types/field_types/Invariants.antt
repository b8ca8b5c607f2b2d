use Rattle.std.proofs.Common.{◌≡◌, ◌++◌, map, drop}
use Rattle.ev_typing.specs.declared.typing.Var.{Var}
use Rattle.ev_typing.proofs.symbol_types.field_types.Given as goal

abbrev pub invariant-loop-field : goal.invariant-loop-field
invariant-loop-field l = l.args ++ map (λ (f : Var). f.ty) (drop l.field-index l.fields) ≡ map (λ (f : Var). f.ty) l.fields
