use Rattle.std.proofs.Common.{◌≡◌, drop}
use Rattle.std.specs.Prelude.{find, bytes_eq}
use Rattle.ev_typing.specs.declared.typing.Var.{Var}
use Rattle.ev_typing.proofs.typing.field_of.Given as goal

abbrev pub invariant-loop-field : goal.invariant-loop-field
invariant-loop-field l = find (λ (f : Var). bytes_eq f.name l.name) (drop l.field-index l.con.fields) ≡ find (λ (f : Var). bytes_eq f.name l.name) l.con.fields
