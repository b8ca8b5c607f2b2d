use Rattle.std.proofs.Common.{◌≡◌, ◌-◌, not, map}
use Rattle.std.specs.List.{list_any, range_with_len}
use Rattle.ev_typing.specs.declared.typing.Var.{Var}
use Rattle.ev_typing.specs.Occurs.{has_param}
use Rattle.ev_print.proofs.params.fields_leave_open.Given as goal

abbrev pub invariant-loop-i : goal.invariant-loop-i
invariant-loop-i l =
    list_any (λ j. not (list_any (has_param j) (map (λ (f : Var). f.ty) l.fields))) (range_with_len l.i (l.params - l.i))
    ≡ list_any (λ j. not (list_any (has_param j) (map (λ (f : Var). f.ty) l.fields))) (range_with_len 0 l.params)
