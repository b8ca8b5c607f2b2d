use Rattle.std.proofs.Common.{◌≡◌, drop}
use Rattle.std.specs.Prelude.{bytes_eq}
use Rattle.std.specs.List.{list_any}
use Rattle.ev_typing.specs.declared.typing.Var.{Var}
use Rattle.ev_wd.proofs.symbols.has_destructor.Given as goal

abbrev pub invariant-loop-field : goal.invariant-loop-field
invariant-loop-field l = list_any (λ (f : Var). bytes_eq f.name l.name) (drop l.field-index l.con.fields) ≡ list_any (λ (f : Var). bytes_eq f.name l.name) l.con.fields
